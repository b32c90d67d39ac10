-- What the struct that a run reads holds. Assumes nothing: these are definitions.
use Rattle.std.specs.Prelude.{List, ℤ}
use Rattle.frames.specs.declared.context.Context.{Context as ContextRead}
use Rattle.frames.specs.Meaning.{Context, context}

-- what a run reads
abbrev pub context_of : ContextRead → Context
context_of c = context c.rows.now c.layout.now c.limits.now

-- the same under other limits
abbrev pub under_limits : ContextRead → List ℤ → Context
under_limits c limits = context c.rows.now c.layout.now limits
