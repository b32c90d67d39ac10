-- What the code's operations mean. Assumes nothing: these are definitions.
use Rattle.lingua.specs.Operation.{Unary, negation, make_record, select, make_list, top, pop, remove, to_hundredths, to_number, Binary, add, subtract, multiply, divide, less, equal, glue, expand, change, push}
use Rattle.lingua.specs.declared.operations.UnaryOperation.{UnaryOperation}
use Rattle.lingua.specs.declared.operations.UnaryOperation.TheVariants.{Negation, MakeRecord, Select, MakeList, Top, Pop, Remove, ToHundredths, ToNumber}
use Rattle.lingua.specs.declared.operations.BinaryOperation.{BinaryOperation}
use Rattle.lingua.specs.declared.operations.BinaryOperation.TheVariants.{Add, Subtract, Multiply, Divide, Less, Equal, Glue, Expand, Change, Push}

unfoldable pub unary_meaning : UnaryOperation → Unary
unary_meaning Negation = negation
unary_meaning (MakeRecord n) = make_record n
unary_meaning (Select n) = select n
unary_meaning MakeList = make_list
unary_meaning Top = top
unary_meaning Pop = pop
unary_meaning (Remove n) = remove n
unary_meaning ToHundredths = to_hundredths
unary_meaning ToNumber = to_number

unfoldable pub binary_meaning : BinaryOperation → Binary
binary_meaning Add = add
binary_meaning Subtract = subtract
binary_meaning Multiply = multiply
binary_meaning Divide = divide
binary_meaning Less = less
binary_meaning Equal = equal
binary_meaning Glue = glue
binary_meaning (Expand n) = expand n
binary_meaning (Change n) = change n
binary_meaning Push = push
