-- Memory keeps its slices over a call, and over one after the other. Assumes nothing.
use mathlib.Core.Path.{refl, ◌∙◌}
use Rattle.run.specs.declared.memory.Memory.{Memory}
use Rattle.run.specs.Lending.{SameSlices}

pub slices_stay : (m : Memory) → SameSlices m m
slices_stay m = record { bodies = refl; cells = refl; states = refl; bodies_length = refl; cells_length = refl; states_length = refl }

pub slices_after : {m n o : Memory} → SameSlices m n → SameSlices n o → SameSlices m o
slices_after h k = record {
  bodies = k.bodies ∙ h.bodies;
  cells = k.cells ∙ h.cells;
  states = k.states ∙ h.states;
  bodies_length = k.bodies_length ∙ h.bodies_length;
  cells_length = k.cells_length ∙ h.cells_length;
  states_length = k.states_length ∙ h.states_length;
}
