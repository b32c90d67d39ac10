-- `numbers` meets its contract: an array is a list of its numbers. Assumes nothing.
use Rattle.decoder.specs.Mentions.{listed}
use Rattle.decoder.proofs.mentions.UpToThree.numbers.Goals as goal

pub returns-in-None : goal.returns-in-None
unfolding listed
returns-in-None c = rw c.in-None.is

pub returns-in-One : goal.returns-in-One
unfolding listed
returns-in-One c = rw c.in-One.is

pub returns-in-Two : goal.returns-in-Two
unfolding listed
returns-in-Two c = rw c.in-Two.is

pub returns-in-Three : goal.returns-in-Three
unfolding listed
returns-in-Three c = rw c.in-Three.is
