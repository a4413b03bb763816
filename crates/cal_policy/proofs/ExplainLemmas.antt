-- The turns of a pass follow one another.
pub mod Assured
use Rattle.cal_policy.proofs.Common.{◌≡◌, ℕ, ◌+◌, ◌++◌, List, [], ap, sym, ◌∙◌, append_assoc, append-nil, Action, made_in, Setting, in_turn}
use Rattle.cal_policy.specs.declared.explain.turn.Turn.{Turn}
use Rattle.cal_policy.specs.Explain.Turns.{made_before}
use Rattle.cal_policy.proofs.PassLemmas.PartSoFar.{in_turn_more}

-- the next turn of a part comes after what this one makes
pub turn_more : {X : Type 0} (f : List X → ℕ → List X) (before : List X) (n m : ℕ) → n + 1 ≡ m →
    before ++ in_turn f before m ≡ (before ++ in_turn f before n) ++ f (before ++ in_turn f before n) n
turn_more f before n m e =
    ap (λ k. before ++ in_turn f before k) (sym e)
    ∙ ap (λ l. before ++ l) (in_turn_more f before n)
    ∙ sym (append_assoc before (in_turn f before n) (f (before ++ in_turn f before n) n))

-- the first turn of the next part comes after what the last of this one makes
pub turn_last : {X : Type 0} (f : List X → ℕ → List X) (before : List X) (n m : ℕ) → n + 1 ≡ m →
    (before ++ in_turn f before m) ++ [] ≡ (before ++ in_turn f before n) ++ f (before ++ in_turn f before n) n
turn_last f before n m e = append-nil _ ∙ turn_more f before n m e

-- after what a turn makes stand the actions that come before the next
pub taken : (s : Setting) (turn next : Turn) (made made2 both : List Action) → made ≡ made_before s turn →
    both ≡ made_in s made turn → made2 ≡ made ++ both →
    made_before s next ≡ made_before s turn ++ made_in s (made_before s turn) turn → made2 ≡ made_before s next
taken s turn next made made2 both e f g n =
    g ∙ ap (λ l. made ++ l) f ∙ ap (λ l. l ++ made_in s l turn) e ∙ sym n
