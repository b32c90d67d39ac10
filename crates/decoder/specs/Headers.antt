-- Where procedures begin, passed on from the laws of tables. Assumes nothing.
pub use Rattle.laws.specs.Headers.{start_more, start_within, begins_table, header_one, variables_next, header_next, variables_start, next_start, header_within}
