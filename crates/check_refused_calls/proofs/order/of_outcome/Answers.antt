use Rattle.check_refused_calls.proofs.order.of_outcome.Goals as goal

pub linearise-made-requires-clause-run : goal.linearise-made-requires-clause-run
linearise-made-requires-clause-run c = rw (c.as_slice-history.ensures, c.as_slice-journals.ensures) c.requires.run

pub linearise-made-requires-clause-watched : goal.linearise-made-requires-clause-watched
linearise-made-requires-clause-watched c = rw (c.as_slice-journals.ensures, c.as_slice-watched.ensures) c.requires.watched
