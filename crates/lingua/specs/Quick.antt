-- The block check in one pass over a block's bytes, and the calls that go by it: the same as the definitions', which look each word up from
-- the block's start, and quick enough for each worked example to compute. Assumes nothing.
use Rattle.std.specs.Prelude.{◌≡◌, refl, Bool, not, ◌&&◌, List, [], ◌∷◌, ◌++◌, ℕ, zero, suc, ◌+◌, ◌*◌, eqb, drop, get_or, length, replicate, pos}
use Rattle.std.proofs.Common.{sym, ap, ap₂, ◌∙◌, arith, get_or-drop, drop-drop}
use Rattle.std.proofs.Math.Path.{fun_ext}
use Rattle.lingua.specs.Numbers.{checked_words, check_place, rows_length, layout_length, present_bodies_length, cells_length, states_length, open_cells_length, open_states_length}
use Rattle.lingua.specs.Errors.{bad_buffer, bad_length, bad_marker, bad_header, bad_check, models_differ, bad_limit, bad_reading, type_error_found}
use Rattle.lingua.specs.Outcome.{is_ok}
use Rattle.lingua.specs.Typing.{check_profile}
use Rattle.lingua.specs.Rows.{word16, word32, row_count}
use Rattle.lingua.specs.Trees.{profile_of}
use Rattle.lingua.specs.Lookup.{Lookup}
use Rattle.lingua.specs.Format.{File, profile, limits, mixed, check_over, block_check, block_count, block_at, model_of, rows_of, blocks_for, bytes32, block_body, with_check, blocks_from, file_of, every_below, length_wrong, marker_wrong, header_wrong, block_check_wrong}
use Rattle.lingua.specs.Inputs.{Inputs, inputs, Buffers, buffers}
use Rattle.lingua.specs.Refusal.{Rule, rule, lowest, file_rules, row_rules, whole_file_rules, limit_wrong, pair_rules, reading_wrong, read_refusal, find_refusal, type_check_refusal, run_fits, run_rules, checked_refusal, erased_refusal}
use Rattle.lingua.specs.Answers.{Answer}
use Rattle.lingua.specs.Calls.{find_unless, find_call, type_check_unless, type_check_call, CheckedCall, checked_unless, checked_call, ErasedCall, erased_unless, erased_call}
use Rattle.lingua.specs.Report.{report_unless, report_text}

-- ---- one pass
-- n words from here on, behind a sum
unfoldable pub words_on : ℕ → ℕ → List ℕ → ℕ
words_on zero sum bytes = sum
words_on (suc n) sum bytes = words_on n (mixed sum (word32 bytes 0)) (drop 4 bytes)

unfoldable pub one_pass : List ℕ → ℕ
one_pass block = words_on checked_words 0 block

byte_on : (bytes : List ℕ) (n i j : ℕ) → n + i ≡ j → get_or (drop n bytes) i 0 ≡ get_or bytes j 0
byte_on bytes n i j e = get_or-drop n bytes i 0 ∙ ap (λ (k : ℕ). get_or bytes k 0) e

word_on : (bytes : List ℕ) (n : ℕ) → word32 (drop n bytes) 0 ≡ word32 bytes n
unfolding word32 word16
word_on bytes n =
    ap₂ (λ (a b : ℕ). a + 65536 * b)
    (ap₂ (λ (a b : ℕ). a + 256 * b) (byte_on bytes n 0 n (omega arith)) (byte_on bytes n 1 (n + 1) (omega arith)))
    (ap₂ (λ (a b : ℕ). a + 256 * b) (byte_on bytes n 2 (n + 2) (omega arith)) (byte_on bytes n 3 (n + 2 + 1) (omega arith)))

next_word : (k : ℕ) (block : List ℕ) → mixed (check_over k block) (word32 (drop (4 * k) block) 0) ≡ check_over (suc k) block
unfolding check_over
next_word k block = ap (mixed (check_over k block)) (word_on block (4 * k))

words_on_lem : (n k : ℕ) (block : List ℕ) → words_on n (check_over k block) (drop (4 * k) block) ≡ check_over (n + k) block
unfolding words_on
words_on_lem zero k block = ap (λ (m : ℕ). check_over m block) (let e : k ≡ zero + k = omega arith in e)
words_on_lem (suc n) k block =
    ap₂ (words_on n) (next_word k block)
    (drop-drop 4 (4 * k) block ∙ ap (λ (m : ℕ). drop m block) (let e : 4 * k + 4 ≡ 4 * suc k = omega arith in e))
    ∙ words_on_lem n (suc k) block
    ∙ ap (λ (m : ℕ). check_over m block) (let e : n + suc k ≡ suc n + k = omega arith in e)

pub one_pass_lem : (block : List ℕ) → block_check block ≡ one_pass block
unfolding block_check one_pass check_over
one_pass_lem block = sym (words_on_lem checked_words 0 block)

-- ---- files
unfoldable pub check_wrong : List ℕ → Bool
check_wrong file = not (every_below (block_count file) (λ k. eqb (word32 (block_at file k) check_place) (one_pass (block_at file k))))

check_wrong_lem : (file : List ℕ) → block_check_wrong file ≡ check_wrong file
unfolding block_check_wrong check_wrong
check_wrong_lem file =
    ap (λ (c : List ℕ → ℕ). not (every_below (block_count file) (λ k. eqb (word32 (block_at file k) check_place) (c (block_at file k))))) (fun_ext one_pass_lem)

unfoldable pub blocks_on : File → ℕ → ℕ → ℕ → ℕ → List ℕ → List ℕ
blocks_on f model n k zero rows = []
blocks_on f model n k (suc m) rows =
    (block_body f model k n rows ++ bytes32 (one_pass (block_body f model k n rows))) ++ blocks_on f model n (suc k) m rows

blocks_on_lem : (f : File) (model n k m : ℕ) (rows : List ℕ) → blocks_from f model n k m rows ≡ blocks_on f model n k m rows
unfolding blocks_from blocks_on with_check
blocks_on_lem f model n k zero rows = refl
blocks_on_lem f model n k (suc m) rows =
    ap₂ (λ (c : ℕ) (l : List ℕ). (block_body f model k n rows ++ bytes32 c) ++ l) (one_pass_lem (block_body f model k n rows)) (blocks_on_lem f model n (suc k) m rows)

unfoldable pub made : File → ℕ → List ℕ → List ℕ
made f model rows = blocks_on f model (blocks_for f (row_count rows)) 0 (blocks_for f (row_count rows)) rows

pub file_made : (f : File) (model : ℕ) (rows : List ℕ) → file_of f model rows ≡ made f model rows
unfolding file_of made
file_made f model rows = blocks_on_lem f model (blocks_for f (row_count rows)) 0 (blocks_for f (row_count rows)) rows

-- ---- rules
unfoldable pub rules_of : Bool → File → List ℕ → List Rule
rules_of wrong f file =
    (rule bad_length (length_wrong f file)
    ∷ rule bad_marker (marker_wrong f file)
    ∷ rule bad_header (header_wrong f file)
    ∷ rule bad_check wrong
    ∷ [])
    ++ row_rules f (rows_of file)

rules_of_lem : (f : File) (file : List ℕ) → whole_file_rules f file ≡ rules_of (check_wrong file) f file
unfolding whole_file_rules file_rules rules_of
rules_of_lem f file = ap (λ (b : Bool). rules_of b f file) (check_wrong_lem file)

unfoldable pub rules_of_both : List ℕ → List ℕ → List Rule
rules_of_both p l =
    rules_of (check_wrong p) profile p
    ++ (rules_of (check_wrong l) limits l
    ++ (rule models_differ (not (eqb (model_of p) (model_of l)))
    ∷ rule bad_limit (limit_wrong (rows_of p) (rows_of l))
    ∷ []))

rules_of_both_lem : (p l : List ℕ) → pair_rules p l ≡ rules_of_both p l
unfolding pair_rules rules_of_both
rules_of_both_lem p l =
    ap₂ (λ (rs ss : List Rule). rs ++ (ss ++ (rule models_differ (not (eqb (model_of p) (model_of l))) ∷ rule bad_limit (limit_wrong (rows_of p) (rows_of l)) ∷ [])))
    (rules_of_lem profile p) (rules_of_lem limits l)

unfoldable pub rules_of_run : Bool → Inputs → List Rule
rules_of_run fits i =
    rule bad_buffer (not fits)
    ∷ (rules_of_both i.profile i.limits ++ (rule bad_reading (reading_wrong (rows_of i.profile) i.variables) ∷ []))

rules_of_run_lem : (fits : Bool) (i : Inputs) → run_rules fits i ≡ rules_of_run fits i
unfolding run_rules rules_of_run
rules_of_run_lem fits i =
    ap (λ (rs : List Rule). rule bad_buffer (not fits) ∷ (rs ++ (rule bad_reading (reading_wrong (rows_of i.profile) i.variables) ∷ [])))
    (rules_of_both_lem i.profile i.limits)

-- ---- the calls, of files that are equal to others
unfoldable pub read_by : File → List ℕ → List ℕ → ℕ
read_by f file buffer = lowest (rule bad_buffer (not (eqb (length buffer) rows_length)) ∷ rules_of (check_wrong file) f file)

pub read_by_lem : (f : File) {p q : List ℕ} → p ≡ q → (buffer : List ℕ) → read_refusal f p buffer ≡ read_by f q buffer
unfolding read_refusal read_by
read_by_lem f {p} {q} e buffer =
    ap (λ (x : List ℕ). read_refusal f x buffer) e
    ∙ ap (λ (rs : List Rule). lowest (rule bad_buffer (not (eqb (length buffer) rows_length)) ∷ rs)) (rules_of_lem f q)

unfoldable pub find_by : List ℕ → List ℕ → Answer Lookup
find_by file name = find_unless (lowest (rules_of (check_wrong file) profile file)) file name

pub find_by_lem : {p q : List ℕ} → p ≡ q → (name : List ℕ) → find_call p name ≡ find_by q name
unfolding find_call find_refusal find_by
find_by_lem {p} {q} e name =
    ap (λ (x : List ℕ). find_call x name) e ∙ ap (λ (rs : List Rule). find_unless (lowest rs) q name) (rules_of_lem profile q)

unfoldable pub refused_by : List ℕ → List ℕ → List ℕ → ℕ
refused_by p l layout = lowest (rule bad_buffer (not (eqb (length layout) layout_length)) ∷ rules_of_both p l)

refused_so : (p l layout : List ℕ) → type_check_refusal p l layout ≡ refused_by p l layout
unfolding type_check_refusal refused_by
refused_so p l layout =
    ap (λ (rs : List Rule). lowest (rule bad_buffer (not (eqb (length layout) layout_length)) ∷ rs)) (rules_of_both_lem p l)

pub refused_by_lem : {p q l m : List ℕ} → p ≡ q → l ≡ m → (layout : List ℕ) → type_check_refusal p l layout ≡ refused_by q m layout
refused_by_lem {p} {q} {l} {m} e f layout = ap₂ (λ (x y : List ℕ). type_check_refusal x y layout) e f ∙ refused_so q m layout

pub type_check_by : {p q l m : List ℕ} → p ≡ q → l ≡ m → (layout : List ℕ) → type_check_call p l layout ≡ type_check_unless (refused_by q m layout) q m layout
unfolding type_check_call
type_check_by {p} {q} {l} {m} e f layout =
    ap₂ (λ (x y : List ℕ). type_check_call x y layout) e f ∙ ap (λ (n : ℕ). type_check_unless n q m layout) (refused_so q m layout)

unfoldable pub checked_by : Inputs → ℕ → Buffers → List ℕ → CheckedCall
checked_by i budget b bodies =
    checked_unless (lowest (rules_of_run (eqb (length bodies) present_bodies_length && run_fits i b) i)) i budget b bodies

pub checked_by_lem : {p q l m : List ℕ} → p ≡ q → l ≡ m → (budget : ℕ) (b : Buffers) (bodies : List ℕ)
    → checked_call (inputs p l [] []) budget b bodies ≡ checked_by (inputs q m [] []) budget b bodies
unfolding checked_call checked_refusal checked_by
checked_by_lem {p} {q} {l} {m} e f budget b bodies =
    let i : Inputs = inputs q m [] [] in
    ap₂ (λ (x y : List ℕ). checked_call (inputs x y [] []) budget b bodies) e f
    ∙ ap (λ (rs : List Rule). checked_unless (lowest rs) i budget b bodies) (rules_of_run_lem (eqb (length bodies) present_bodies_length && run_fits i b) i)

unfoldable pub erased_by : Inputs → ℕ → Buffers → List ℕ → ErasedCall
erased_by i budget b layout =
    erased_unless
    (lowest
    (rules_of_run (eqb (length layout) layout_length && run_fits i b) i
    ++ (rule type_error_found (not (is_ok (check_profile (profile_of (rows_of i.profile) (rows_of i.limits))))) ∷ [])))
    i budget b layout

pub erased_by_lem : {p q l m : List ℕ} → p ≡ q → l ≡ m → (budget : ℕ) (b : Buffers) (layout : List ℕ)
    → erased_call (inputs p l [] []) budget b layout ≡ erased_by (inputs q m [] []) budget b layout
unfolding erased_call erased_refusal erased_by
erased_by_lem {p} {q} {l} {m} e f budget b layout =
    let i : Inputs = inputs q m [] [] in
    ap₂ (λ (x y : List ℕ). erased_call (inputs x y [] []) budget b layout) e f
    ∙ ap (λ (rs : List Rule). erased_unless (lowest (rs ++ (rule type_error_found (not (is_ok (check_profile (profile_of (rows_of i.profile) (rows_of i.limits))))) ∷ []))) i budget b layout)
    (rules_of_run_lem (eqb (length layout) layout_length && run_fits i b) i)

abbrev pub report_buffers : Buffers
report_buffers = buffers (replicate cells_length (pos 0)) (replicate states_length 0) (replicate open_cells_length (pos 0)) (replicate open_states_length 0)

abbrev pub report_bodies : List ℕ
report_bodies = replicate present_bodies_length 0

unfoldable pub report_by : List ℕ → List ℕ → List ℕ
report_by p l =
    report_unless
    (lowest (rules_of_run (eqb (length report_bodies) present_bodies_length && run_fits (inputs p l [] []) report_buffers) (inputs p l [] []))) p l

pub report_by_lem : {p q l m : List ℕ} → p ≡ q → l ≡ m → report_text p l ≡ report_by q m
unfolding report_text checked_refusal report_by
report_by_lem {p} {q} {l} {m} e f =
    let i : Inputs = inputs q m [] [] in
    ap₂ (λ (x y : List ℕ). report_text x y) e f
    ∙ ap (λ (rs : List Rule). report_unless (lowest rs) q m) (rules_of_run_lem (eqb (length report_bodies) present_bodies_length && run_fits i report_buffers) i)

unfoldable pub quickly : Unit {0}
unfolding words_on one_pass check_wrong blocks_on made rules_of rules_of_both rules_of_run read_by find_by refused_by checked_by erased_by report_by
quickly = tt
