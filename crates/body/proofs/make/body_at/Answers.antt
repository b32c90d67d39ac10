-- `body::make::body_at` meets its contract: a boolean, a number or a word is its tag, and of others the walk says where they end. Assumes nothing.
use mathlib.Core.Path.{◌≡◌, ◌∙◌}
use Prim.Native.Nat.{◌-◌}
use native.Mathlib.Omega.{arith}
use lib.ListN.{length}
use Rattle.lingua.specs.Encode.{bytes}
use Rattle.body.proofs.Places.{at_below, at_end}
use Rattle.body.proofs.Making.{part_taken, simple_taken}
use borrow.Author.Rules.{rules}
use Rattle.body.proofs.make.body_at.Goals as goal

pub bounds-body-at : goal.bounds-body-at
bounds-body-at c =
    let l : length c.args.body ≡ 96 = search rules in
    omega (arith, l, at_below c.args.body c.args.at c.requires.body c.requires.here)

pub returns-then-tag-le-WORD : goal.returns-then-tag-le-WORD
returns-then-tag-le-WORD c = λ b h. c.simple.ensures ∙ simple_taken c.args.body c.args.at b h c.if-tag-le-WORD.true

pub overflow_sub-m : goal.overflow_sub-m
overflow_sub-m c =
    let pre = c.requires in
    let p = pre in
    omega (arith, (c.measure_at-m.ensures p.body p.here).is_next)

pub part-requires : goal.part-requires
part-requires c =
    let pre = c.requires in
    let args = c.args in
    let p = pre in
    let l : length args.body ≡ 96 = search rules in
    omega (arith, l, (c.measure_at-m.ensures p.body p.here).is_next, at_end args.body args.at p.body p.here)

pub returns : goal.returns
returns c = λ b h.
    let measure-at = c.measure_at-m in
    let args = c.args in
    let n : measure-at.result.next - args.at ≡ length (bytes b) = omega (arith, (measure-at.ensures b h).is_next) in
    c.part.ensures ∙ part_taken args.body args.at (measure-at.result.next - args.at) b h n
