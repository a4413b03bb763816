-- When a record may be published, and which refusal stands where it may not.
use Rattle.std.specs.Prelude.{◌≡◌, ◌<◌, List, length}
use Rattle.cal_signal.specs.declared.record.Record.{Record}
use Rattle.cal_signal.specs.declared.fault.PublishFault.{PublishFault}
use Rattle.cal_signal.specs.declared.publisher.TheConstants.{LAST_PLACE}
use Rattle.cal_signal.specs.declared.fault.PublishFault.TheVariants.{Backwards, BadShape, Exhausted}
use Rattle.cal_signal.specs.Records.{IsLater, IsShaped}
use Rattle.cal_signal.specs.Pages.{last_published}

-- it is later than the last record, it is shaped, and there is a place left
abbrev pub MayPublish : List Record → Record → Type 0
MayPublish published rec = IsLater (last_published published) rec × IsShaped rec
    × (length published < LAST_PLACE)

-- the first of these three that fails is the refusal
abbrev pub IsRefusal : List Record → Record → PublishFault → Type 0
IsRefusal published rec Backwards = ¬ IsLater (last_published published) rec
IsRefusal published rec BadShape = IsLater (last_published published) rec × (¬ IsShaped rec)
IsRefusal published rec Exhausted =
    IsLater (last_published published) rec × IsShaped rec × (length published ≡ LAST_PLACE)
