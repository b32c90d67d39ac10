-- `copy` meets its contract: what the leaf gives is assigned. Assumes nothing.
use Rattle.lingua.specs.Store.{copied}
use Rattle.checked_store.proofs.copy.copy.Goals as goal

pub returns-clause-assigns : goal.returns-clause-assigns
unfolding copied
returns-clause-assigns c = λ vs ws from to l. c.assign.ensures.assigns ws _ to l (c.fetch-x.ensures vs from)
