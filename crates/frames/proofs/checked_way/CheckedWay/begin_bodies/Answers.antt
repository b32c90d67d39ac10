-- `begin_bodies` of the checked run meets its contract: the bodies are the declared ones. Assumes nothing.
use Rattle.frames.specs.Meaning.{BeginsBy, FreshBy}
use Rattle.frames.proofs.checked_way.CheckedWay.begin_bodies.Goals as goal

pub keep_bodies-requires-clause-variables_known : goal.keep_bodies-requires-clause-variables_known
unfolding BeginsBy
keep_bodies-requires-clause-variables_known c = record { scope = c.requires.accepted_rows.1; accepted = c.requires.accepted_rows.0; held = c.requires.begins_by.0.held }

pub keep_bodies-requires-clause-variables_value : goal.keep_bodies-requires-clause-variables_value
unfolding BeginsBy
keep_bodies-requires-clause-variables_value c = c.requires.begins_by.1

pub returns : goal.returns
unfolding FreshBy
returns c = c.keep_bodies.ensures
