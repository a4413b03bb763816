-- The command of the program, and what it makes of the words that ask for a job.
use Rattle.cal_engine.proofs.Common.{◌≡◌, Bool, List, codes, true, false, cond, Option, Some, None, inl, inr, refl, sym, ap, ap₂, ◌∙◌, map, option_map, bytes_eq, Contains, get_or, unwrap_or, Decides, get_or-map, is_simple, subcommand_of, subcommand_rows_of, Row, Text, first_of, one_of, Policy, Caladan, Assured, answer_of, asking, AsksBy, Explains, FlagSays, FlagsAsk, job_of, Names, policy_asked, policy_of, program, with_among, RunAnswer}
use Rattle.std.specs.Prelude.{option_and_then}
use Rattle.std.proofs.lemmas.Slice.Eq.{bytes_eq-Decides}
use Rattle.clap.specs.Matches.{first_value, found_of, one_text, subcommand_name_of}
use Rattle.clap.specs.Takes.{takes}
use Rattle.clap.specs.Walk.{rows_of}
use Rattle.clap.specs.declared.parser.matches.ArgMatches.{ArgMatches}
use Rattle.clap.specs.declared.parser.matches.ArgMatches.TheViews.{out-ArgMatches}
use Rattle.clap.proofs.OnLiterals.{clap_on_literals}
use Rattle.clap.proofs.WalkLemmas.{first_value-rows, one_text-rows}
use Rattle.cal_engine.specs.declared.command_words.command_line.Job.{Job}
use Rattle.cal_engine.specs.declared.command_words.command_line.Job.TheVariants as job

pub program_is_simple : is_simple program ≡ true
unfolding clap_on_literals
program_is_simple = refl

-- a way to ask: the words, and the job or none
abbrev Way : Type 0
Way = List Text × Option Job

-- whether a flag with this value is there; nothing where that is neither
abbrev said : Option Text → Option Bool
said None = Some false
said (Some text) = cond (bytes_eq text (codes "true")) (Some true) (cond (bytes_eq text (codes "false")) (Some false) None)

-- what a subcommand of this name asks for, where this is said of its flags
abbrev named_with : Text → Option Bool → Option Bool → Option Bool → Option (Option Job)
named_with name summary report table = option_and_then (λ s. option_and_then (λ r. option_map (λ t. job_of name (answer_of s r t)) table) report) summary

-- the job that a subcommand names, or none; nothing where its flags have other values
abbrev named_by : Option (Text × List Row) → Option (Option Job)
named_by None = Some (Some job.Decide)
named_by (Some p) = named_with p.0 (said (one_of (codes "summary") p.1)) (said (one_of (codes "report") p.1)) (said (one_of (codes "table") p.1))

-- whether a subcommand is explained; nothing where its flag has another value
abbrev explained_by : Option (Text × List Row) → Option Bool
explained_by None = Some false
explained_by (Some p) = said (one_of (codes "explain") p.1)

-- the program takes each way to ask
each_is_taken : (policy : Option Policy) (explained : Bool) → map (λ (way : Way). takes program way.0) (asking policy explained) ≡ map (λ (way : Way). true) (asking policy explained)
unfolding clap_on_literals with_among
each_is_taken None false = refl
each_is_taken None true = refl
each_is_taken (Some Caladan) false = refl
each_is_taken (Some Caladan) true = refl
each_is_taken (Some Assured) false = refl
each_is_taken (Some Assured) true = refl

-- the program makes of each way what is asked for
each_is_named : (policy : Option Policy) (explained : Bool) → map (λ (way : Way). named_by (subcommand_of program way.0)) (asking policy explained) ≡ map (λ (way : Way). Some way.1) (asking policy explained)
unfolding clap_on_literals with_among
each_is_named None false = refl
each_is_named None true = refl
each_is_named (Some Caladan) false = refl
each_is_named (Some Caladan) true = refl
each_is_named (Some Assured) false = refl
each_is_named (Some Assured) true = refl

-- the program finds in each way whether it is explained
each_is_explained : (policy : Option Policy) (explained : Bool) → map (λ (way : Way). explained_by (subcommand_of program way.0)) (asking policy explained) ≡ map (λ (way : Way). Some explained) (asking policy explained)
unfolding clap_on_literals with_among
each_is_explained None false = refl
each_is_explained None true = refl
each_is_explained (Some Caladan) false = refl
each_is_explained (Some Caladan) true = refl
each_is_explained (Some Assured) false = refl
each_is_explained (Some Assured) true = refl

-- the program finds in each way the policy
each_is_by : (policy : Option Policy) (explained : Bool) → map (λ (way : Way). policy_asked (subcommand_of program way.0)) (asking policy explained) ≡ map (λ (way : Way). Some (unwrap_or policy Caladan)) (asking policy explained)
unfolding clap_on_literals with_among
each_is_by None false = refl
each_is_by None true = refl
each_is_by (Some Caladan) false = refl
each_is_by (Some Caladan) true = refl
each_is_by (Some Assured) false = refl
each_is_by (Some Assured) true = refl

-- what two functions make of an element, where they make the same of the list
at_element : {A B : Type 0} (f g : A → B) (xs : List A) → map f xs ≡ map g xs → (x : A) → Contains xs x → f x ≡ g x
at_element f g xs same x found =
    ap f (sym found.2) ∙ sym (get_or-map f xs found.0 x (f x) found.1) ∙ ap (λ ys. get_or ys found.0 (f x)) same
    ∙ get_or-map g xs found.0 x (f x) found.1 ∙ ap g found.2

said_text : (text : Text) (b t f : Bool) → Decides t (text ≡ codes "true") → Decides f (text ≡ codes "false") →
    cond t (Some true) (cond f (Some false) None) ≡ Some b → FlagSays (Some text) b
said_text text true true f is_true is_false e = ap Some (is_true.0 refl)
said_text text true false true is_true is_false e = absurd (cc)
said_text text true false false is_true is_false e = absurd (cc)
said_text text false true f is_true is_false e = absurd (cc)
said_text text false false true is_true is_false e = inr (ap Some (is_false.0 refl))
said_text text false false false is_true is_false e = absurd (cc)

-- what is said of a flag is what its value says
said_is : (value : Option Text) (b : Bool) → said value ≡ Some b → FlagSays value b
said_is None true e = absurd (cc)
said_is None false e = inl refl
said_is (Some text) b e = said_text text b _ _ (bytes_eq-Decides text (codes "true")) (bytes_eq-Decides text (codes "false")) e

named_with_names : (p : Text × List Row) (named : Option Job) (summary report table : Option Bool) →
    said (one_of (codes "summary") p.1) ≡ summary → said (one_of (codes "report") p.1) ≡ report → said (one_of (codes "table") p.1) ≡ table →
    named_with p.0 summary report table ≡ Some named → Names (Some p) named
named_with_names p named None report table s r t e = absurd (cc)
named_with_names p named (Some summary) None table s r t e = absurd (cc)
named_with_names p named (Some summary) (Some report) None s r t e = absurd (cc)
named_with_names p named (Some summary) (Some report) (Some table) s r t e = (
  answer_of summary report table,
  record {
    summary = summary;
    report = report;
    table = table;
    says_summary = said_is _ summary s;
    says_report = said_is _ report r;
    says_table = said_is _ table t;
    ask = refl;
  },
  cc,
)

named_by_names : (found : Option (Text × List Row)) (named : Option Job) → named_by found ≡ Some named → Names found named
named_by_names None named e = cc
named_by_names (Some p) named e = named_with_names p named _ _ _ refl refl refl e

pub asked_is_named : (policy : Option Policy) (explained : Bool) (words : List Text) (named : Option Job) → AsksBy policy explained words named → Names (subcommand_of program words) named
unfolding AsksBy
asked_is_named policy explained words named asks =
    named_by_names _ named (at_element (λ (way : Way). named_by (subcommand_of program way.0)) (λ (way : Way). Some way.1) (asking policy explained) (each_is_named policy explained) (words, named) asks)

pub asked_is_taken : (policy : Option Policy) (explained : Bool) (words : List Text) (named : Option Job) → AsksBy policy explained words named → takes program words ≡ true
unfolding AsksBy
asked_is_taken policy explained words named asks =
    at_element (λ (way : Way). takes program way.0) (λ (way : Way). true) (asking policy explained) (each_is_taken policy explained) (words, named) asks

pub asked_is_by : (policy : Option Policy) (explained : Bool) (words : List Text) (named : Option Job) → AsksBy policy explained words named →
    policy_asked (subcommand_of program words) ≡ Some (unwrap_or policy Caladan)
unfolding AsksBy
asked_is_by policy explained words named asks =
    at_element (λ (way : Way). policy_asked (subcommand_of program way.0)) (λ (way : Way). Some (unwrap_or policy Caladan)) (asking policy explained) (each_is_by policy explained) (words, named) asks

explained_by_explains : (found : Option (Text × List Row)) (explained : Bool) → explained_by found ≡ Some explained → Explains found explained
explained_by_explains None explained e = cc
explained_by_explains (Some p) explained e = said_is _ explained e

pub asked_is_explained : (policy : Option Policy) (explained : Bool) (words : List Text) (named : Option Job) → AsksBy policy explained words named → Explains (subcommand_of program words) explained
unfolding AsksBy
asked_is_explained policy explained words named asks =
    explained_by_explains _ explained (at_element (λ (way : Way). explained_by (subcommand_of program way.0)) (λ (way : Way). Some explained) (asking policy explained) (each_is_explained policy explained) (words, named) asks)

-- the flag that is read is the one that the arguments say
pub flag_read : (run : ArgMatches) (name : Text) (flag : Bool) → (one_text (found_of run) name ≡ None → flag ≡ false) →
    (one_text (found_of run) name ≡ Some (codes "true") → flag ≡ true) → (one_text (found_of run) name ≡ Some (codes "false") → flag ≡ false) →
    (b : Bool) → FlagSays (one_of name (rows_of (found_of run))) b → flag ≡ b
flag_read run name flag none set unset true says = set (one_text-rows (found_of run) name ∙ says)
flag_read run name flag none set unset false (inl says) = none (one_text-rows (found_of run) name ∙ says)
flag_read run name flag none set unset false (inr says) = unset (one_text-rows (found_of run) name ∙ says)

fused : {A B C : Type 0} (f : A → B) (g : B → C) (o : Option A) → option_map (λ (x : A). g (f x)) o ≡ option_map g (option_map f o)
fused f g None = refl
fused f g (Some x) = refl

-- the name of a subcommand is that of its rows
name_of_rows : (m : ArgMatches) → subcommand_name_of m ≡ option_map (λ (p : Text × List Row). p.0) (subcommand_rows_of m)
name_of_rows m = fused _ (λ (p : Text × List Row). p.0) (out-ArgMatches m).subcommand

named_found : (found : Option (Text × List Row)) (word : Text) (rows : List Row) (answer : Option RunAnswer) →
    Some word ≡ option_map (λ (p : Text × List Row). p.0) found → Some rows ≡ option_map (λ (p : Text × List Row). p.1) found →
    ((asked : Option RunAnswer) → FlagsAsk rows asked → answer ≡ asked) → (named : Option Job) → Names found named → job_of word answer ≡ named
named_found None word rows answer is_word is_rows read named names = absurd (cc)
named_found (Some p) word rows answer is_word is_rows read named names =
    let same_word : word ≡ p.0 = cc in
    let same_rows : rows ≡ p.1 = cc in
    ap₂ job_of same_word (read names.0 (rw same_rows names.1)) ∙ sym names.2

-- the job of the word and the answer that are read is the one that the subcommand names
pub named_job : (m run : ArgMatches) (word : Text) (answer : Option RunAnswer) →
    Some word ≡ subcommand_name_of m → Some (rows_of (found_of run)) ≡ option_map (λ (p : Text × List Row). p.1) (subcommand_rows_of m) →
    ((asked : Option RunAnswer) → FlagsAsk (rows_of (found_of run)) asked → answer ≡ asked) →
    (named : Option Job) → Names (subcommand_rows_of m) named → job_of word answer ≡ named
named_job m run word answer is_word is_rows read named names = named_found (subcommand_rows_of m) word (rows_of (found_of run)) answer (is_word ∙ name_of_rows m) is_rows read named names

explained_found : (found : Option (Text × List Row)) (rows : List Row) (flag : Bool) → Some rows ≡ option_map (λ (p : Text × List Row). p.1) found →
    ((explained : Bool) → FlagSays (one_of (codes "explain") rows) explained → flag ≡ explained) → (explained : Bool) → Explains found explained → flag ≡ explained
explained_found None rows flag is_rows read explained says = absurd (cc)
explained_found (Some p) rows flag is_rows read explained says =
    let same_rows : rows ≡ p.1 = cc in
    read explained (rw same_rows says)

-- the flag that is read says whether the subcommand is explained
pub is_explained : (m run : ArgMatches) (flag : Bool) →
    Some (rows_of (found_of run)) ≡ option_map (λ (p : Text × List Row). p.1) (subcommand_rows_of m) →
    ((explained : Bool) → FlagSays (one_of (codes "explain") (rows_of (found_of run))) explained → flag ≡ explained) →
    (explained : Bool) → Explains (subcommand_rows_of m) explained → flag ≡ explained
is_explained m run flag is_rows read explained says = explained_found (subcommand_rows_of m) (rows_of (found_of run)) flag is_rows read explained says

policy_found : (found : Option (Text × List Row)) (rows : List Row) (name : Option Text) → Some rows ≡ option_map (λ (p : Text × List Row). p.1) found →
    name ≡ first_of (codes "policy") rows → policy_of name ≡ policy_asked found
policy_found None rows name is_rows is = absurd (cc)
policy_found (Some p) rows name is_rows is =
    let same_rows : rows ≡ p.1 = cc in
    ap policy_of (is ∙ ap (first_of (codes "policy")) same_rows)

-- the policy of the name that is read is the one that the subcommand asks for
pub policy_is_asked : (m run : ArgMatches) (name : Option Text) →
    Some (rows_of (found_of run)) ≡ option_map (λ (p : Text × List Row). p.1) (subcommand_rows_of m) →
    name ≡ first_value (found_of run) (codes "policy") → policy_of name ≡ policy_asked (subcommand_rows_of m)
policy_is_asked m run name is_rows is = policy_found (subcommand_rows_of m) (rows_of (found_of run)) name is_rows (is ∙ first_value-rows (found_of run) (codes "policy"))
