-- What stands before a history, and the history, are parts of an input again.
use Rattle.cal_engine.proofs.Common.{◌≡◌, ◌==◌, ◌++◌, ℕ, Bool, true, false, List, [], ◌∷◌, Option, Some, None, option_map, codes, refl, sym, ap, cond, ◌∙◌, append_assoc, arith, Result, Ok, Err, concat, Table, Parts, parts_of, with_table, RunFault, table_text}
use Rattle.cal_machine.specs.Reading.{table_in}
use Rattle.cal_machine.specs.declared.fault.ConfigFault.{ConfigFault}
use Rattle.cal_input.specs.Input.{before_line, lines_of, is_separator, parts_at, input_parts}
use Rattle.cal_input.proofs.LinesOf.{IsPlain, concat-lines_of, lines_of-first}

-- bytes without a line feed, and one that ends them
abbrev IsEnded : List ℕ → Type 0
IsEnded line = (front : List ℕ) × IsPlain front × (line ≡ front ++ 10 ∷ [])

-- each line but the last is ended
abbrev AreLines : List (List ℕ) → Type 0
AreLines [] = Unit {0}
AreLines (line ∷ []) = Unit {0}
AreLines (line ∷ next ∷ lines) = IsEnded line × AreLines (next ∷ lines)

longer : (b : ℕ) (line : List ℕ) → (b == 10) ≡ false → IsEnded line → IsEnded (b ∷ line)
longer b line e ended = (b ∷ ended.0, (e, ended.1), ap (λ (x : List ℕ). b ∷ x) ended.2)

in_front_of_line : (b : ℕ) (lines : List (List ℕ)) → (b == 10) ≡ false → AreLines lines → AreLines (before_line b lines)
in_front_of_line b [] e h = tt
in_front_of_line b (line ∷ []) e h = tt
in_front_of_line b (line ∷ next ∷ lines) e h = (longer b line e h.0, h.1)

is_feed : (b : ℕ) → (b == 10) ≡ true → b ≡ 10
is_feed b e = grind arith

new_line : (b : ℕ) (lines : List (List ℕ)) → (b == 10) ≡ true → AreLines lines → AreLines ((b ∷ []) ∷ lines)
new_line b [] e h = tt
new_line b (next ∷ lines) e h = (([], tt, ap (λ (x : ℕ). x ∷ []) (is_feed b e)), h)

one_more : (b : ℕ) (ends : Bool) (lines : List (List ℕ)) → (b == 10) ≡ ends → AreLines lines → AreLines (cond ends ((b ∷ []) ∷ lines) (before_line b lines))
one_more b true lines e h = new_line b lines e h
one_more b false lines e h = in_front_of_line b lines e h

lines_are : (text : List ℕ) → AreLines (lines_of text)
unfolding lines_of
lines_are [] = tt
lines_are (b ∷ text) = one_more b (b == 10) (lines_of text) refl (lines_are text)

-- the parts of lines, where these stand in the place of what came after the separator
abbrev Behind : (after : List ℕ) → Option (List ℕ × List ℕ) → Type 0
Behind after None = Unit {0}
Behind after (Some parts) = parts_at (lines_of (parts.0 ++ (codes "---\n" ++ after))) ≡ Some (parts.0, after)

separated : (after : List ℕ) → parts_at (lines_of (codes "---\n" ++ after)) ≡ Some ([], after)
unfolding parts_at
separated after = rw (lines_of-first (codes "---") after (refl, (refl, (refl, tt))), concat-lines_of after) refl

other_line : (after line : List ℕ) (parts : List ℕ × List ℕ) → IsEnded line → is_separator line ≡ false
    → Behind after (Some parts) → Behind after (Some (line ++ parts.0, parts.1))
unfolding parts_at
other_line after line parts ended differs h =
    let whole : (line ++ parts.0) ++ (codes "---\n" ++ after) ≡ ended.0 ++ 10 ∷ (parts.0 ++ (codes "---\n" ++ after)) =
    append_assoc line parts.0 (codes "---\n" ++ after) ∙ ap (λ (x : List ℕ). x ++ (parts.0 ++ (codes "---\n" ++ after))) ended.2
    ∙ append_assoc ended.0 (10 ∷ []) (parts.0 ++ (codes "---\n" ++ after)) in
    rw (whole, lines_of-first ended.0 (parts.0 ++ (codes "---\n" ++ after)) ended.1, sym ended.2, differs, h) refl

any_line : (after line : List ℕ) (lines : List (List ℕ)) (here : Bool) → is_separator line ≡ here → (IsEnded line) → Behind after (parts_at lines)
    → Behind after (cond here (Some ([], concat lines)) (option_map (λ parts. (line ++ parts.0, parts.1)) (parts_at lines)))
any_line after line lines true e ended h = separated after
any_line after line lines false e ended h = later (parts_at lines) h
  where
    later : (parts : Option (List ℕ × List ℕ)) → Behind after parts → Behind after (option_map (λ parts. (line ++ parts.0, parts.1)) parts)
    later None h = tt
    later (Some parts) h = other_line after line parts ended e h

last_line : (after line : List ℕ) (here : Bool) → Behind after (cond here (Some ([], [])) None)
last_line after line true = separated after
last_line after line false = tt

behind : (after : List ℕ) (lines : List (List ℕ)) → AreLines lines → Behind after (parts_at lines)
unfolding parts_at
behind after [] h = tt
behind after (line ∷ []) h = last_line after line (is_separator line)
behind after (line ∷ next ∷ lines) h = any_line after line (next ∷ lines) (is_separator line) refl h.0 (behind after (next ∷ lines) h.1)

-- the table of an input, the line after it and a text are an input of that table and that text
pub front_read : (given after : List ℕ) (parts : List ℕ × List ℕ) → input_parts given ≡ Some parts
    → input_parts (table_text (input_parts given) ++ after) ≡ Some (parts.0, after)
front_read given after parts e =
    let h : Behind after (Some parts) = rw e at (behind after (lines_of given) (lines_are given)) in
    rw (e, append_assoc parts.0 (codes "---\n") after) h

abbrev table_of : Result Parts RunFault → Table → Table
table_of (Ok parts) other = parts.table
table_of (Err f) other = other

read : (answer : Result Table ConfigFault) (rest trace : List ℕ) (table : Table) → with_table answer rest ≡ Ok (record { table = table; trace = trace }) → answer ≡ Ok table
read (Ok t) rest trace table same = ap (λ (r : Result Parts RunFault). Ok (table_of r t)) same
read (Err f) rest trace table same = absurd (cc)

-- the text that an input's table is read from
pub table_read : (given : List ℕ) (table : Table) (trace : List ℕ) → parts_of given ≡ Ok (record { table = table; trace = trace })
    → (text : List ℕ) × (table_in text ≡ Ok table)
table_read given table trace e = found (input_parts given) refl
  where
    found : (parts : Option (List ℕ × List ℕ)) → input_parts given ≡ parts → (text : List ℕ) × (table_in text ≡ Ok table)
    found None none = absurd (cc)
    found (Some p) some = (p.0, read (table_in p.0) p.1 trace table (rw some at e))

-- what stands before a history and the history are read as the same table and as what came after
pub parts_read : (given after : List ℕ) (table : Table) (trace : List ℕ) → parts_of given ≡ Ok (record { table = table; trace = trace })
    → parts_of (table_text (input_parts given) ++ after) ≡ Ok (record { table = table; trace = after })
parts_read given after table trace e = found (input_parts given) refl
  where
    found : (parts : Option (List ℕ × List ℕ)) → input_parts given ≡ parts → parts_of (table_text (input_parts given) ++ after) ≡ Ok (record { table = table; trace = after })
    found None none = absurd (cc)
    found (Some p) some =
        let is : table_in p.0 ≡ Ok table = read (table_in p.0) p.1 trace table (rw some at e) in
        rw (front_read given after p some, is) refl
