-- `type_parts` meets its contract, row by row. Assumes nothing.
use Rattle.lingua.specs.References.{type_parts}
use Rattle.decoder.specs.Decoded.{type_meaning}
use Rattle.decoder.specs.Mentions.{listed}
use Rattle.decoder.proofs.mentions.type_parts.Goals as goal

pub returns-in-Simple : goal.returns-in-Simple
unfolding listed type_parts type_meaning
returns-in-Simple c = rw c.in-Simple.is

pub returns-in-List : goal.returns-in-List
unfolding listed type_parts type_meaning
returns-in-List c = rw c.in-List.is

pub returns-in-Record : goal.returns-in-Record
unfolding listed type_parts type_meaning
returns-in-Record c = rw c.in-Record.is

pub returns-in-Expand : goal.returns-in-Expand
unfolding listed type_parts type_meaning
returns-in-Expand c = rw c.in-Expand.is
