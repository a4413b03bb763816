-- A watch may go to any thread.
use denote.Param.Send.{IsSend, recorded_send, sendable, struct_send, view_send}
use denote.Struct.Declared.{shape}
use Rattle.std.proofs.Crossing.{Vec-send, crosses}
use Rattle.cal_signal.proofs.observer.Observer.TheSendSync as observer
use Rattle.cal_signal.proofs.look.Look.TheSendSync as look
use Rattle.cal_sched.specs.contracts.watch.Watch.{the_row}
use Rattle.cal_sched.specs.contracts.watch.Watch.TheInside as inside

pub watch_send : IsSend the_row
watch_send = view_send inside.the_row _ _ _ _ (recorded_send inside.the_field.row _ _ inside.the_type.to_one (struct_send (shape inside.the_type) (Vec-send _ observer.the_send, (search crosses, (Vec-send _ (search (sendable, crosses, look.the_send, look.the_field_send) depth 20), (Vec-send _ (Vec-send _ look.the_send), tt))))))
