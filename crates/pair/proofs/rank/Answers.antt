-- `rank` meets its contract, refusal by refusal. Assumes nothing.
use Rattle.std.proofs.Common.{◌∙◌}
use Rattle.lingua.specs.Refusal.{place_in, rank}
use Rattle.pair.proofs.Ranks.{rank_other}
use Rattle.pair.proofs.rank.Goals as goal

pub returns-in-BadParameters : goal.returns-in-BadParameters
unfolding rank place_in
returns-in-BadParameters c = rw c.in-BadParameters.is

pub returns-in-RepeatedReference : goal.returns-in-RepeatedReference
unfolding rank place_in
returns-in-RepeatedReference c = rw c.in-RepeatedReference.is

pub returns-in-ModelsDiffer : goal.returns-in-ModelsDiffer
unfolding rank place_in
returns-in-ModelsDiffer c = rw c.in-ModelsDiffer.is

pub returns-in-BadLimit : goal.returns-in-BadLimit
unfolding rank place_in
returns-in-BadLimit c = rw c.in-BadLimit.is

pub returns-in-BadReading : goal.returns-in-BadReading
unfolding rank place_in
returns-in-BadReading c = rw c.in-BadReading.is

pub returns-in-TypeErrorFound : goal.returns-in-TypeErrorFound
unfolding rank place_in
returns-in-TypeErrorFound c = rw c.in-TypeErrorFound.is

pub returns-in_default : goal.returns-in_default
returns-in_default c =
    let d = c.in_default in
    c.number.ensures ∙ rank_other c.args.refusal d.not-BadParameters d.not-RepeatedReference d.not-ModelsDiffer d.not-BadLimit d.not-BadReading d.not-TypeErrorFound
