-- `limit_owner` meets its contract: the ends are in order, and the name decides. Assumes nothing.
use mathlib.Core.Path.{◌≡◌, ap, ◌∙◌, subst}
use native.Mathlib.Omega.{arith}
use lib.ListN.{length}
use mathlib.Core.List.{List}
use Prim.Native.Nat.{ℕ}
use mir.Syntax.{w64}
use mir.Val.{to_z, of_z}
use mir.ValLaws.{to_z-of_z}
use Rattle.lingua.specs.Numbers.{limit_section}
use Rattle.lingua.specs.Refusal.{ends_fit}
use Rattle.profile.specs.Find.{limit, OneNamed}
use Rattle.profile.proofs.Declaring.{pairs, name_is}
use Rattle.profile.proofs.Agreeing.{ends_crossed, name_decides}
use Rattle.profile.proofs.agreement.limit_owner.Goals as goal

pub returns-then-high-low : goal.returns-then-high-low
returns-then-high-low c = ends_crossed c.args.rows.now c.args.limits.now c.args.l (to_z w64 (of_z w64 c.limit_low-low.result)) (to_z w64 (of_z w64 c.limit_high-high.result)) (to_z-of_z w64 c.limit_low-low.result (record { sfits = c.limit_low-low.type_inv }) ∙ c.limit_low-low.ensures) (to_z-of_z w64 c.limit_high-high.result (record { sfits = c.limit_high-high.type_inv }) ∙ c.limit_high-high.ensures) c.if-high-low.true

pub overflow_mul-l : goal.overflow_mul-l
overflow_mul-l c = omega (arith, pairs c.args.limits.now limit_section c.limits-t.result c.limits-t.ensures, c.requires.l_bound, c.limits-t.ensures.within, (let e : length c.bytes-bytes.result.now ≡ length c.args.limits.now = ap length c.bytes-bytes.ensures in e))

pub overflow_add-t : goal.overflow_add-t
overflow_add-t c = omega (arith, pairs c.args.limits.now limit_section c.limits-t.result c.limits-t.ensures, c.requires.l_bound, c.limits-t.ensures.within, (let e : length c.bytes-bytes.result.now ≡ length c.args.limits.now = ap length c.bytes-bytes.ensures in e))

pub bytes_at-name-requires : goal.bytes_at-name-requires
bytes_at-name-requires c = omega (arith, pairs c.args.limits.now limit_section c.limits-t.result c.limits-t.ensures, c.requires.l_bound, c.limits-t.ensures.within, (let e : length c.bytes-bytes.result.now ≡ length c.args.limits.now = ap length c.bytes-bytes.ensures in e))

pub returns : goal.returns
returns c = name_decides c.args.rows.now c.args.limits.now c.args.l (to_z w64 (of_z w64 c.limit_low-low.result)) (to_z w64 (of_z w64 c.limit_high-high.result)) (to_z-of_z w64 c.limit_low-low.result (record { sfits = c.limit_low-low.type_inv }) ∙ c.limit_low-low.ensures) (to_z-of_z w64 c.limit_high-high.result (record { sfits = c.limit_high-high.type_inv }) ∙ c.limit_high-high.ensures) c.owner_named.result c.if-high-low.false (subst (λ (name : List ℕ). OneNamed (ends_fit (limit (to_z w64 (of_z w64 c.limit_low-low.result)) (to_z w64 (of_z w64 c.limit_high-high.result)))) c.owner_named.result c.args.rows.now name) (name_is c.args.limits.now limit_section c.limits-t.result c.limits-t.ensures c.args.l _ (rw c.bytes-bytes.ensures at c.bytes_at-name.ensures.0)) c.owner_named.ensures)
