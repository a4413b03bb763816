-- Bytes that are text.
use Rattle.std.proofs.Common.{◌≡◌, ℕ, List, Bool, true, false, Some, None, IsUtf8, refl}
use Rattle.std.specs.Str.{is_utf8}
use Rattle.std.proofs.lemmas.Str.{IsUtf8-from_is_utf8, is_utf8-from_IsUtf8}
use Rattle.cal_machine.specs.Reading.{text_of}

pub is_text : (bytes text : List ℕ) → (text ≡ bytes) × IsUtf8 bytes → Some text ≡ text_of bytes
is_text bytes text h = rw (h.0, is_utf8-from_IsUtf8 bytes h.1) refl

pub is_no_text : (bytes : List ℕ) → (IsUtf8 bytes → ⊥) → None ≡ text_of bytes
is_no_text bytes broken = go (is_utf8 bytes) refl
  where
    go : (b : Bool) → is_utf8 bytes ≡ b → None ≡ text_of bytes
    go true e = absurd (broken (IsUtf8-from_is_utf8 bytes e))
    go false e = rw e refl
