-- Texts in a row.
use Rattle.std.proofs.Common.{refl, [], ◌∷◌, IsUtf8}
use lib.Utf8.{encode}

-- a comma and a space are a text
pub comma_utf8 : IsUtf8 (44 ∷ 32 ∷ [])
unfolding encode
comma_utf8 = (44 ∷ 32 ∷ [], (refl, refl))
