use Rattle.cal_laws.proofs.ChoiceLemmas.Classes.{of_its_class, class_from}
use Rattle.cal_laws.proofs.choice.classes_are_told.Goals as goal

pub returns : goal.returns
returns c = λ s acts t class core. (of_its_class s acts t class core, class_from s acts t class core)
