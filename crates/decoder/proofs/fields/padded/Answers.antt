-- `padded` meets its contract. Assumes nothing.
use Rattle.std.proofs.Common.{rules, ◌≡◌, eqb, Bool, false, List, drop, Option, ◌∙◌}
use Rattle.std.specs.Fn.{CalledAt}
use Rattle.std.specs.declared.iter.SkipWhile.{SkipWhile}
use denote.Param.Members.{Mut}
use denote.Ref.{Bor}
use Rattle.std.specs.List.{prefix_len}
use Rattle.std.specs.Iterator.Adapters.{skip_while_source, skip_while_callee, skip_while_done_skipping, skip_while_steps}
use Rattle.std.proofs.lemmas.Iterator.{YieldsList, YieldsList-from_slice}
use Rattle.std.proofs.lemmas.Iterator.Adapters.{YieldsList-from_skip_while}
use borrow.Author.Tests.{tests}
use Rattle.lingua.specs.Rules.{between}
use Rattle.laws.specs.Chains.{all_of_from_all}
use Rattle.decoder.proofs.Runs.{written, padded_is}
use Rattle.decoder.proofs.fields.padded.Goals as goal

-- the library's law with the closure before what is known of its calls
skipped : {S A B F : Type 0} {steps : S → Option A → S → Type 0} {v : A → B} {g : Mut F (Bor A × Unit {0}) Bool} (test : B → Bool) {f : F} {s : SkipWhile S F} {ys : List B}
    → YieldsList steps v (skip_while_source s) ys → skip_while_callee s ≡ f → skip_while_done_skipping s ≡ false
    → ((x : A) (b : Bool) (q : F) → CalledAt g f x b q → (q ≡ f) × (b ≡ test (v x)))
    → YieldsList (skip_while_steps steps g) v s (drop (prefix_len test ys) ys)
skipped {steps = steps} {v = v} {g = g} test {f = f} yields callee done called = YieldsList-from_skip_while steps v g test f called yields callee done

pub returns : goal.returns
returns c = all_of_from_all (λ b. eqb b 0) _ _ _ c.all.ensures.ran (skipped (written (between c.args.low c.args.high)) (YieldsList-from_slice c.args.bytes.now (cc)) c.skip_while.ensures.closure c.skip_while.ensures.done_skipping (λ x b q k. search (rules, tests))) (λ x b q k. search (rules, tests)) ∙ padded_is (between c.args.low c.args.high) c.args.bytes.now
