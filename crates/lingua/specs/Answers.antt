-- What the public answers, and the kind of file that a caller names, mean: for each case of each enum, document 01's number and values. The
-- promises of the public calls go through these. Assumes nothing: these are definitions.
use Rattle.std.proofs.Math.Option.{Option as Maybe, some, none}
use Rattle.std.specs.Prelude.{ℕ, Option, None, Some, Result, Ok, Err}
use Rattle.lingua.specs.Run.{End, finished, failed, out_of_budget}
use Rattle.lingua.specs.Lookup.{Lookup, lookup}
use Rattle.lingua.specs.Format.{File, profile, limits}
use Rattle.lingua.specs.declared.FileKind.{FileKind}
use Rattle.lingua.specs.declared.FileKind.TheVariants as file_kind
use Rattle.lingua.specs.declared.RunEnd.{RunEnd}
use Rattle.lingua.specs.declared.RunEnd.TheVariants as run_end
use Rattle.lingua.specs.declared.RowsRead.{RowsRead as CodeRows}
use Rattle.lingua.specs.declared.Search.{Search}
use Rattle.lingua.specs.declared.errors.ErrorAt.{ErrorAt}
use Rattle.lingua.specs.declared.errors.Refusal.{Refusal}
use Rattle.lingua.specs.Faults.{error_number, refusal_number}

-- what each public call gives in code: refused, or what it answers
abbrev pub RunAnswer : Type 0
RunAnswer = Result RunEnd Refusal

abbrev pub CheckAnswer : Type 0
CheckAnswer = Result (Result (Unit {0}) ErrorAt) Refusal

abbrev pub ReadAnswer : Type 0
ReadAnswer = Result CodeRows Refusal

abbrev pub WriteAnswer : Type 0
WriteAnswer = Result (Unit {0}) Refusal

abbrev pub FindAnswer : Type 0
FindAnswer = Result Search Refusal

-- the number that is returned where a call is refused, or what it answers
pub data Answer (A : Type 0) : Type 0 where
  refused : ℕ → Answer A
  answered : A → Answer A

-- ---- runs
pub record Ending : Type 0 where
  pub end : ℕ
  pub error : ℕ
  pub place : ℕ
  pub steps : ℕ

abbrev pub ending : ℕ → ℕ → ℕ → ℕ → Ending
ending n e p s = record { end = n; error = e; place = p; steps = s }

-- 0 finished, 1 failed, 2 out
abbrev pub end_number : End → ℕ
end_number finished = 0
end_number failed = 1
end_number out_of_budget = 2

unfoldable pub run_meaning : RunAnswer → Answer Ending
run_meaning (Err n) = refused (refusal_number n)
run_meaning (Ok (run_end.Finished s)) = answered (ending (end_number finished) 0 0 s)
run_meaning (Ok (run_end.Failed f s)) = answered (ending (end_number failed) (error_number f.error) f.place s)
run_meaning (Ok (run_end.Out None s)) = answered (ending (end_number out_of_budget) 0 0 s)
run_meaning (Ok (run_end.Out (Some f) s)) = answered (ending (end_number out_of_budget) (error_number f.error) f.place s)

-- ---- the type check
pub data Verdict : Type 0 where
  passed : Verdict
  faulted : ℕ → ℕ → Verdict

unfoldable pub type_check_meaning : CheckAnswer → Answer Verdict
type_check_meaning (Err n) = refused (refusal_number n)
type_check_meaning (Ok (Ok u)) = answered passed
type_check_meaning (Ok (Err f)) = answered (faulted (error_number f.error) f.place)

-- ---- the reader and the writer
pub record RowsRead : Type 0 where
  pub model : ℕ
  pub count : ℕ

unfoldable pub read_meaning : ReadAnswer → Answer RowsRead
read_meaning (Err n) = refused (refusal_number n)
read_meaning (Ok r) = answered (record { model = r.model; count = r.count })

unfoldable pub write_meaning : WriteAnswer → Answer (Unit {0})
write_meaning (Err n) = refused (refusal_number n)
write_meaning (Ok u) = answered tt

unfoldable pub file_meaning : FileKind → File
file_meaning file_kind.Profile = profile
file_meaning file_kind.Limits = limits

-- ---- the search for a variable by its name
abbrev pub index_found : Option ℕ → Maybe ℕ
index_found None = none
index_found (Some d) = some d

unfoldable pub find_meaning : FindAnswer → Answer Lookup
find_meaning (Err n) = refused (refusal_number n)
find_meaning (Ok s) = answered (lookup (index_found s.index) s.looked)
