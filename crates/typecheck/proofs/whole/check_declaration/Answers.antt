-- `typecheck::whole::check_declaration` meets its contract: a declared yoke is there and reads no variable. Assumes nothing.
use mathlib.Core.Path.{subst}
use Rattle.lingua.specs.Body.{Body}
use Rattle.body.specs.Encode.{Holds}
use Rattle.typing.proofs.Parts.{variable_is, in_pairs}
use Rattle.typecheck.specs.Verdicts.{declaration_check}
use Rattle.typecheck.proofs.Scoping.{known_ready, scope_sees, yoke_there, yoke_closed}
use Rattle.typecheck.proofs.whole.check_declaration.Goals as goal

pub declared_yoke-yoke-requires-clause-d_bound : goal.declared_yoke-yoke-requires-clause-d_bound
declared_yoke-yoke-requires-clause-d_bound c = in_pairs c.args.own.now.rows.now c.args.t c.args.d c.requires.declarations_asked.known.scope c.requires.d_bound

pub check_yoke-requires : goal.check_yoke-requires
check_yoke-requires c =
    record { sees = scope_sees c.requires.declarations_asked.profile (known_ready c.requires.declarations_asked.known); here = yoke_there c.requires.declarations_asked.known c.args.d _ c.requires.d_bound c.declared_yoke-yoke.ensures.value; closed = yoke_closed c.requires.declarations_asked.known c.args.d _ c.requires.d_bound c.declared_yoke-yoke.ensures.value; held = record { body = _; holds = c.variable_body-declared.ensures }; room = c.requires.declarations_asked.room }

pub returns : goal.returns
unfolding declaration_check
returns c =
    rw (c.declared_yoke-yoke.ensures.value, c.requires.declarations_asked.profile.variables.section) at (c.check_yoke.ensures _ (subst (λ (b : Body). Holds c.variable_body-declared.result b) (variable_is c.args.own.now.rows.now c.args.t.section c.args.d c.requires.d_bound) c.variable_body-declared.ensures))
