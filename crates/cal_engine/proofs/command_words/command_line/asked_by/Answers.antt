use Rattle.cal_engine.proofs.Common.{◌≡◌, List, Option, None, Some, map, inr, Err, sym, ap, subst, ◌∙◌, rules, Bor, unwrap_or, App, is_simple, subcommand_of, Row, Text, Caladan, Explains, Names, policy_asked}
use Rattle.clap.specs.Takes.{takes}
use Rattle.cal_engine.proofs.CommandWords.{asked_is_by, asked_is_explained, asked_is_named, asked_is_taken, program_is_simple}
use Rattle.cal_engine.proofs.command_words.command_line.asked_by.Goals as goal

pub returns-clause-job : goal.returns-clause-job
returns-clause-job c =
    let texts : List Text = map (λ (word : Bor Text). word.now) c.args.words.now in
    let rows = (c.in_ok-matches.ensures.matches (ap is_simple c.in_ok-program.ensures ∙ program_is_simple)).1 in
    let same = rows ∙ ap (λ (a : App). subcommand_of a texts) c.in_ok-program.ensures in
    λ policy explained asked asks.
    c.asked_of.ensures.job (unwrap_or policy Caladan) explained asked
    (ap policy_asked same ∙ asked_is_by policy explained texts (Some asked) asks)
    (subst (λ (o : Option (Text × List Row)). Explains o explained) (sym same) (asked_is_explained policy explained texts (Some asked) asks))
    (subst (λ (o : Option (Text × List Row)). Names o (Some asked)) (sym same) (asked_is_named policy explained texts (Some asked) asks))

pub returns-clause-two : goal.returns-clause-two
returns-clause-two c =
    let texts : List Text = map (λ (word : Bor Text). word.now) c.args.words.now in
    let rows = (c.in_ok-matches.ensures.matches (ap is_simple c.in_ok-program.ensures ∙ program_is_simple)).1 in
    let same = rows ∙ ap (λ (a : App). subcommand_of a texts) c.in_ok-program.ensures in
    λ explained asks.
    c.asked_of.ensures.two Caladan
    (ap policy_asked same ∙ asked_is_by None explained texts None asks)
    (subst (λ (o : Option (Text × List Row)). Names o None) (sym same) (asked_is_named None explained texts None asks))

pub returns-clause-no_policy : goal.returns-clause-no_policy
returns-clause-no_policy c =
    let texts : List Text = map (λ (word : Bor Text). word.now) c.args.words.now in
    let rows = (c.in_ok-matches.ensures.matches (ap is_simple c.in_ok-program.ensures ∙ program_is_simple)).1 in
    let same = rows ∙ ap (λ (a : App). subcommand_of a texts) c.in_ok-program.ensures in
    λ taken none. c.asked_of.ensures.no_policy (ap policy_asked same ∙ none)

pub returns-in_err-matches-clause-job : goal.returns-in_err-matches-clause-job
returns-in_err-matches-clause-job c =
    let texts : List Text = map (λ (word : Bor Text). word.now) c.args.words.now in
    let fault : c.from_residual-in_err-matches.result ≡ Err c.in_err-matches.field-0.0 = search rules in
    λ policy explained asked asks. rw fault (c.in_err-matches.ensures.passes (ap (λ (a : App). takes a texts) c.in_ok-program.ensures ∙ asked_is_taken policy explained texts (Some asked) asks))

pub returns-in_err-matches-clause-two : goal.returns-in_err-matches-clause-two
returns-in_err-matches-clause-two c =
    let texts : List Text = map (λ (word : Bor Text). word.now) c.args.words.now in
    let fault : c.from_residual-in_err-matches.result ≡ Err c.in_err-matches.field-0.0 = search rules in
    λ explained asks. rw fault (inr (c.in_err-matches.ensures.passes (ap (λ (a : App). takes a texts) c.in_ok-program.ensures ∙ asked_is_taken None explained texts None asks)))

pub returns-in_err-matches-clause-no_policy : goal.returns-in_err-matches-clause-no_policy
returns-in_err-matches-clause-no_policy c =
    let texts : List Text = map (λ (word : Bor Text). word.now) c.args.words.now in
    let fault : c.from_residual-in_err-matches.result ≡ Err c.in_err-matches.field-0.0 = search rules in
    λ taken none. rw fault (inr (c.in_err-matches.ensures.passes (ap (λ (a : App). takes a texts) c.in_ok-program.ensures ∙ taken)))
