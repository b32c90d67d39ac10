-- The two ways to run a profile. Assumes nothing: these are definitions.
-- document 01: desk run, with bodies and every check; chair run, on bare numbers and the layout table
pub data Way : Type 0 where
  checked : Way
  erased : Way
