-- Meaning: what an escaped text stands for.
use Rattle.std.specs.Prelude.{ℕ, ◌+◌, ◌-◌, ◌*◌, Bool, ◌&&◌, ◌==◌, nat_le, List, [], ◌∷◌}
use Rattle.std.specs.Prelude.{Option, Some, None, option_map, if◌then◌else◌}
use Rattle.script_cases.specs.declared.escapes.Seen.{Seen}
use Rattle.script_cases.specs.declared.escapes.Seen.TheVariants as seen
use Rattle.script_cases.specs.declared.escapes.Gives.{Gives}
use Rattle.script_cases.specs.declared.escapes.Gives.TheVariants as gives

abbrev pub between : ℕ → ℕ → ℕ → Bool
between least most b = nat_le least b && nat_le b most

-- 0 to 9, a to f and A to F
abbrev pub digit_of : ℕ → Option ℕ
digit_of b =
    if between 48 57 b then Some (b - 48)
    else (if between 97 102 b then Some (b - 97 + 10)
    else (if between 65 70 b then Some (b - 65 + 10) else None))

abbrev pub byte_of_digits : Option ℕ → Option ℕ → Option ℕ
byte_of_digits (Some high) (Some low) = Some (high * 16 + low)
byte_of_digits _ _ = None

-- n, r, t and the backslash
abbrev pub byte_of_letter : ℕ → Option ℕ
byte_of_letter b =
    if b == 110 then Some 10
    else (if b == 114 then Some 13
    else (if b == 116 then Some 9
    else (if b == 92 then Some 92 else None)))

abbrev pub given_byte : Option ℕ → Option Gives
given_byte None = None
given_byte (Some b) = Some (gives.Byte b)

-- what is seen behind a backslash: x, a line feed, which stands for nothing, or a letter
abbrev pub given_letter : ℕ → Option Gives
given_letter b =
    if b == 120 then Some (gives.Seen seen.Hex)
    else (if b == 10 then Some (gives.Seen seen.Plain) else given_byte (byte_of_letter b))

-- what a byte gives behind what was seen of an escape
abbrev pub given : Seen → ℕ → Option Gives
given seen.Plain b = if b == 92 then Some (gives.Seen seen.Backslash) else Some (gives.Byte b)
given seen.Backslash b = given_letter b
given seen.Hex b = Some (gives.Seen (seen.Digit b))
given (seen.Digit high) b = given_byte (byte_of_digits (digit_of high) (digit_of b))

-- at the end a lone backslash stands for nothing, and an escape must be whole
abbrev pub ended : Seen → Option (List ℕ)
ended seen.Plain = Some []
ended seen.Backslash = Some []
ended seen.Hex = None
ended (seen.Digit high) = None

-- what the rest gives, behind what was given
abbrev pub behind : Option Gives → (Seen → Option (List ℕ)) → Option (List ℕ)
behind None rest = None
behind (Some (gives.Byte b)) rest = option_map (λ bytes. b ∷ bytes) (rest seen.Plain)
behind (Some (gives.Seen now)) rest = rest now

-- what a text stands for behind what was seen
abbrev pub meant : List ℕ → Seen → Option (List ℕ)
meant [] now = ended now
meant (b ∷ bs) now = behind (given now b) (λ later. meant bs later)

abbrev pub unescaped : List ℕ → Option (List ℕ)
unescaped text = meant text seen.Plain
