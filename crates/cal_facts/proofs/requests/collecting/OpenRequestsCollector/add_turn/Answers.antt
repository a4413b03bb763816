use Rattle.cal_facts.proofs.requests.collecting.OpenRequestsCollector.add_turn.Goals as goal

pub returns-clause-collected : goal.returns-clause-collected
returns-clause-collected c = λ history journals journal held at few. c.in_ok-turn.ensures journals journal held at few
