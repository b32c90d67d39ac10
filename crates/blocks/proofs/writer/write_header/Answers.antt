-- `write_header` meets its contract: the marker, then four stores. Assumes nothing.
use Rattle.std.proofs.Common.{List, ℕ, get_or, ap}
use Rattle.lingua.specs.Answers.{file_meaning}
use Rattle.blocks.proofs.Writes.{header_stored}
use Rattle.blocks.proofs.writer.write_header.Goals as goal

pub returns : goal.returns
returns c =
    header_stored (file_meaning c.args.kind) c.args.model c.args.k c.args.count c.marker_of-marker.result c.args.header.now c.copy_from_slice.new.self _ _
    c.requires c.marker_of-marker.ensures c.copy_from_slice.ensures.after (ap (λ (l : List ℕ). get_or l 0 0) c.to_le_bytes-model_bytes.ensures) (ap (λ (l : List ℕ). get_or l 1 0) c.to_le_bytes-model_bytes.ensures)
