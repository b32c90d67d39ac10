-- The numbers of document 01, each named once. Assumes nothing: these are definitions.
use Rattle.std.specs.Prelude.{ℕ, zero, suc, ◌+◌, ◌*◌, ℤ, pos, negsuc}

-- ---- ranges of simple values
abbrev pub lowest_number : ℤ
lowest_number = negsuc 999999

abbrev pub highest_number : ℤ
highest_number = pos 1000000

-- a count of hundredths
abbrev pub lowest_count : ℤ
lowest_count = negsuc 99999999

abbrev pub highest_count : ℤ
highest_count = pos 100000000

-- the hundredths in a whole
abbrev pub parts_of_one : ℕ
parts_of_one = 100

abbrev pub word_length : ℕ
word_length = 8

abbrev pub lowest_character : ℕ
lowest_character = 32

abbrev pub highest_character : ℕ
highest_character = 126

abbrev pub list_places : ℕ
list_places = 8

-- ---- bounds of bodies
abbrev pub body_cells : ℕ
body_cells = 64

abbrev pub body_nodes : ℕ
body_nodes = 32

abbrev pub body_depth : ℕ
body_depth = 4

abbrev pub record_attributes : ℕ
record_attributes = 8

-- a body by value
abbrev pub body_bytes : ℕ
body_bytes = 96

-- attributes are numbered below this
abbrev pub attribute_numbers : ℕ
attribute_numbers = 64

-- ---- tables and the caller's buffers
abbrev pub most_variables : ℕ
most_variables = 16

abbrev pub most_types : ℕ
most_types = 32

abbrev pub most_expressions : ℕ
most_expressions = 512

abbrev pub most_instructions : ℕ
most_instructions = 256

abbrev pub most_limits : ℕ
most_limits = 16

abbrev pub most_readings : ℕ
most_readings = 16

-- procedures, and the parameters of each sort that one may have
abbrev pub most_procedures : ℕ
most_procedures = 8

abbrev pub most_parameters : ℕ
most_parameters = 4

-- document 01: cells, marks, sheet
abbrev pub cells_length : ℕ
cells_length = 1024

-- those of one variable
abbrev pub state_words : ℕ
state_words = 2

abbrev pub states_length : ℕ
states_length = 32

abbrev pub layout_length : ℕ
layout_length = 1024

-- the present bodies of all variables
abbrev pub variable_bodies_length : ℕ
variable_bodies_length = 1536

-- calls that may be open at once, and the same three for all of them
abbrev pub most_calls : ℕ
most_calls = 16

abbrev pub open_cells_length : ℕ
open_cells_length = 16384

abbrev pub open_states_length : ℕ
open_states_length = 512

abbrev pub open_bodies_length : ℕ
open_bodies_length = 24576

-- the present bodies that the checked run hands out: the profile's, then those of the open calls
abbrev pub present_bodies_length : ℕ
present_bodies_length = 26112

-- ---- the code's own: the bodies of all type rows, a variable's limit, the limits of all variables, and the operand stack, with a value for
-- each expression row and one more
abbrev pub type_bodies_length : ℕ
type_bodies_length = 3072

abbrev pub limit_cells : ℕ
limit_cells = 3

abbrev pub limit_cells_length : ℕ
limit_cells_length = 48

abbrev pub stack_length : ℕ
stack_length = 32832

-- ---- files
abbrev pub row_bytes : ℕ
row_bytes = 10

abbrev pub block_bytes : ℕ
block_bytes = 512

abbrev pub block_rows : ℕ
block_rows = 50

-- a name, with its zeros
abbrev pub name_bytes : ℕ
name_bytes = 8

-- the bytes before a block's rows, and those of its rows
abbrev pub header_bytes : ℕ
header_bytes = 8

abbrev pub area_bytes : ℕ
area_bytes = 500

-- the 32-bit words that a block's check goes over, and where it stands
abbrev pub checked_words : ℕ
checked_words = 127

abbrev pub check_place : ℕ
check_place = 508

abbrev pub most_blocks : ℕ
most_blocks = 22

-- the longest file, and the row areas of its blocks
abbrev pub longest_file : ℕ
longest_file = 11264

abbrev pub areas_length : ℕ
areas_length = 11000

-- the reader's buffer: 1,096 rows
abbrev pub rows_length : ℕ
rows_length = 10960

-- ---- sections
abbrev pub declaration_section : ℕ
declaration_section = 1

abbrev pub type_section : ℕ
type_section = 2

abbrev pub expression_section : ℕ
expression_section = 3

abbrev pub instruction_section : ℕ
instruction_section = 4

abbrev pub limit_section : ℕ
limit_section = 5

abbrev pub procedure_section : ℕ
procedure_section = 6

-- ---- the tables of section 6: the row that begins procedure k, and its variables; rows before any procedure are table 6
abbrev pub header_table : ℕ → ℕ
header_table k = 7 + 2 * k

abbrev pub variable_table : ℕ → ℕ
variable_table k = 8 + 2 * k

-- whose variables: 0 for the profile's own, else 1 + the procedure's number
abbrev pub scope_table : ℕ → ℕ
scope_table zero = declaration_section
scope_table (suc k) = variable_table k

-- ---- places (document 01: place)
-- a reading's is this and its index
abbrev pub reading_place : ℕ
reading_place = 256

-- in the type check: an instruction's, and a declaration's
abbrev pub instruction_place : ℕ
instruction_place = 512

abbrev pub declaration_place : ℕ
declaration_place = 768

-- ---- the report
abbrev pub report_budget : ℕ
report_budget = 1000
