-- `typecheck::whole::check_profile` meets its contract: the whole check from zeros, and zeros again behind a type error. Assumes nothing.
use Rattle.std.proofs.Common.{◌≡◌, ap, ◌∙◌}
use borrow.Author.Rules.{rules}
use lib.ListN.{replicate}
use Rattle.lingua.specs.Numbers.{layout_length}
use Rattle.typecheck.proofs.Wholes.{whole_is, whole_passes}
use Rattle.typecheck.proofs.whole.check_profile.Goals as goal

pub returns-in-Ok : goal.returns-in-Ok
returns-in-Ok c = λ limits.
    let z : c.fill.new.self ≡ replicate layout_length 0 = c.fill.ensures.after (λ y e. search rules) ∙ ap (λ k. replicate k 0) c.requires.layout_len in
    whole_passes _ limits _ _ z c.in-Ok.ensures

pub returns-in-Err : goal.returns-in-Err
returns-in-Err c = λ limits.
    record {
      is = whole_is _ limits ∙ c.in-Err.ensures;
      layout = c.fill-in-Err.ensures.after (λ y e. search rules) ∙ ap (λ k. replicate k 0) (c.check_rows.auto.layout ∙ c.fill.ensures.len ∙ c.requires.layout_len);
    }
