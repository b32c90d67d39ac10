-- `pair` meets its contract: both leaves lie on the stack, one above the other, and `apply` does the rest. Assumes nothing.
use native.Mathlib.Omega.{arith}
use lib.ListN.{length, length-take, length-drop}
use Rattle.checked_row.proofs.Stacking.{first_stays, second_lies}
use Prim.Native.Nat.{◌≤◌}
use Rattle.checked_row.proofs.quick.pair.Goals as goal

pub leaf-requires-2 : goal.leaf-requires-2
leaf-requires-2 c =
    let a = c.requires.asked_2 in
    record { ready = a.ready; here = a.here; room = simp (length-take, length-drop) (omega (arith, simp length-drop at a.room, c.leaf.auto.stack)) }

pub apply-requires-clause-given : goal.apply-requires-clause-given
apply-requires-clause-given c =
    let r = c.requires.asked.ready in
    let long : 64 ≤ length c.leaf.new.stack = omega (arith, c.requires.asked.room, c.leaf.auto.stack) in (
      record { outcome = _; gives = first_stays c.leaf-2.new.stack _ long (c.in_ok-p.ensures r.store r.has.value r.world r.has.is) },
      record { outcome = _; gives = second_lies c.leaf.new.stack c.leaf-2.new.stack _ long (c.in_ok-q.ensures r.store r.has.value r.world r.has.is) },
    )

pub returns : goal.returns
returns c = λ vs x w h.
    let long : 64 ≤ length c.leaf.new.stack = omega (arith, c.requires.asked.room, c.leaf.auto.stack) in
    c.apply.ensures _ _ (first_stays c.leaf-2.new.stack _ long (c.in_ok-p.ensures vs x w h)) (second_lies c.leaf.new.stack c.leaf-2.new.stack _ long (c.in_ok-q.ensures vs x w h))
