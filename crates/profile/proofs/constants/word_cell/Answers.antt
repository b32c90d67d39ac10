-- `word_cell` meets its contract: the eight bytes are packed, the first highest. Assumes nothing.
use mathlib.Core.Path.{sym, ap, ◌∙◌}
use lib.IntN.{pos}
use mir.Syntax.{w64}
use mir.ValLaws.{to_z_pos}
use native.Mathlib.Omega.{arith}
use Rattle.lingua.specs.Value.{is_character, packed}
use Rattle.profile.proofs.Packing.{word_is, word_half}
use Rattle.profile.proofs.constants.word_cell.Goals as goal

pub overflow_cast-result : goal.overflow_cast-result
overflow_cast-result c = omega (arith, word_half is_character c.args.bytes.now c.requires.bytes_value c.from_be_bytes-packed.result c.from_be_bytes-packed.ensures c.requires.bytes_value_2)

pub returns : goal.returns
unfolding packed
returns c = to_z_pos w64 _ (word_half is_character c.args.bytes.now c.requires.bytes_value c.from_be_bytes-packed.result c.from_be_bytes-packed.ensures c.requires.bytes_value_2) ∙ ap pos (sym (word_is is_character c.args.bytes.now c.requires.bytes_value c.from_be_bytes-packed.result c.from_be_bytes-packed.ensures))
