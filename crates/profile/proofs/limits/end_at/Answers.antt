-- `end_at` meets its contract. Assumes nothing.
use mathlib.Core.Path.{◌≡◌, ap, ◌∙◌}
use native.Mathlib.Omega.{arith}
use lib.ListN.{length}
use Rattle.lingua.specs.Numbers.{limit_section}
use mir.Syntax.{w64}
use mir.ValLaws.{to_z-of_z}
use Rattle.profile.proofs.Declaring.{pairs, end_is}
use Rattle.profile.proofs.limits.end_at.Goals as goal

pub overflow_mul-i : goal.overflow_mul-i
overflow_mul-i c = omega (arith, pairs c.args.limits.now limit_section c.limits-t.result c.limits-t.ensures, c.requires.l_bound, c.requires.from_bound, c.limits-t.ensures.within, (let e : length c.bytes-bytes.result.now ≡ length c.args.limits.now = ap length c.bytes-bytes.ensures in e))

pub overflow_add-i : goal.overflow_add-i
overflow_add-i c = omega (arith, pairs c.args.limits.now limit_section c.limits-t.result c.limits-t.ensures, c.requires.l_bound, c.requires.from_bound, c.limits-t.ensures.within, (let e : length c.bytes-bytes.result.now ≡ length c.args.limits.now = ap length c.bytes-bytes.ensures in e))

pub overflow_add-i-2 : goal.overflow_add-i-2
overflow_add-i-2 c = omega (arith, pairs c.args.limits.now limit_section c.limits-t.result c.limits-t.ensures, c.requires.l_bound, c.requires.from_bound, c.limits-t.ensures.within, (let e : length c.bytes-bytes.result.now ≡ length c.args.limits.now = ap length c.bytes-bytes.ensures in e))

pub overflow_mul-i-2 : goal.overflow_mul-i-2
overflow_mul-i-2 c = omega (arith, pairs c.args.limits.now limit_section c.limits-t.result c.limits-t.ensures, c.requires.l_bound, c.requires.from_bound, c.limits-t.ensures.within, (let e : length c.bytes-bytes.result.now ≡ length c.args.limits.now = ap length c.bytes-bytes.ensures in e))

pub overflow_add-i-3 : goal.overflow_add-i-3
overflow_add-i-3 c = omega (arith, pairs c.args.limits.now limit_section c.limits-t.result c.limits-t.ensures, c.requires.l_bound, c.requires.from_bound, c.limits-t.ensures.within, (let e : length c.bytes-bytes.result.now ≡ length c.args.limits.now = ap length c.bytes-bytes.ensures in e))

pub word32_at-requires : goal.word32_at-requires
word32_at-requires c = omega (arith, pairs c.args.limits.now limit_section c.limits-t.result c.limits-t.ensures, c.requires.l_bound, c.requires.from_bound, c.limits-t.ensures.within, (let e : length c.bytes-bytes.result.now ≡ length c.args.limits.now = ap length c.bytes-bytes.ensures in e))

pub returns : goal.returns
returns c = end_is c.args.limits.now c.limits-t.result c.args.l c.args.from c.word32_at.result _ c.limits-t.ensures (rw c.bytes-bytes.ensures at c.word32_at.ensures) (to_z-of_z w64 c.signed32.result (record { sfits = c.signed32.type_inv }) ∙ c.signed32.ensures)
