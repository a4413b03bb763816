use Rattle.cal_trace.proofs.comings.file.read_comings.Goals as goal

pub returns : goal.returns
returns c = rw (c.open-rows.ensures.rest, c.as_slice-requests.ensures, c.tasks.ensures.count) at c.take_comings.ensures
