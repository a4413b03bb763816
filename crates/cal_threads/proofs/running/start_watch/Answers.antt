use denote.Param.Send.{sendable}
use Rattle.cal_threads.proofs.Sent.{watch_send}
use Rattle.cal_threads.proofs.running.start_watch.Goals as goal

pub spawn_with-requires-send-T : goal.spawn_with-requires-send-T
spawn_with-requires-send-T g c κs within = search (sendable, watch_send) depth 12

pub spawn_with-requires-send-F : goal.spawn_with-requires-send-F
spawn_with-requires-send-F g c κs within = search (sendable, watch_send) depth 12
