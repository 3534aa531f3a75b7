-- Meaning: what the words of a command ask for.
use Rattle.std.specs.Prelude.{ℕ, ◌+◌, ◌-◌, ◌*◌, Bool, false, ◌&&◌, ◌==◌, not, nat_eq, nat_le, List, [], ◌∷◌, length, Option, Some, None, codes, if◌then◌else◌}
use Rattle.std.specs.Cmp.Lexicographic.{pointwise}
use Rattle.std.specs.Char.{is_ascii_digit}
use Rattle.dfx_top.specs.declared.words.Request.{Request}
use Rattle.dfx_top.specs.declared.words.Request.TheVariants as request
use Rattle.dfx_top.specs.declared.words.Requested.{Requested as Held}

-- what is asked, and the path of the script that it is asked of
abbrev pub Command : Type 0
Command = Request × List ℕ

-- as the code holds it
abbrev pub viewed : Held → Command
viewed r = (r.request, r.script.now)

-- a word that may name a file isn't empty and doesn't begin with `-`
abbrev pub is_plain : List ℕ → Bool
is_plain [] = false
is_plain (b ∷ bs) = not (b == 45)

abbrev pub is_word : List ℕ → List ℕ → Bool
is_word word other = pointwise nat_eq word other

-- where nothing is said
abbrev pub default_partitions : ℕ
default_partitions = 4

-- the number that digits write after those of n
abbrev pub number_after : ℕ → List ℕ → Option ℕ
number_after n [] = Some n
number_after n (b ∷ bs) = if is_ascii_digit b then number_after (n * 10 + (b - 48)) bs else None

abbrev pub in_range : Option ℕ → Option ℕ
in_range None = None
in_range (Some n) = if nat_le 1 n && nat_le n 64 then Some n else None

-- a number of partitions: 1 to 20 digits, from 1 to 64
abbrev pub partitions_of : List ℕ → Option ℕ
partitions_of word =
    if nat_le 1 (length word) && nat_le (length word) 20
    then in_range (number_after 0 word) else None

-- of a plain command and its file
abbrev pub plain_request : List ℕ → List ℕ → Option Command
plain_request name file =
    if is_word name (codes "query") then Some (request.Query, file)
    else (if is_word name (codes "explain")
    then Some (request.Explain default_partitions, file) else None)

abbrev pub explained : List ℕ → Option ℕ → Option Command
explained file None = None
explained file (Some n) = Some (request.Explain n, file)

-- `query FILE`, `explain FILE` and `explain FILE --partitions N`; all other words are refused
abbrev pub request_of : List (List ℕ) → Option Command
request_of (name ∷ file ∷ []) = if is_plain file then plain_request name file else None
request_of (name ∷ file ∷ option ∷ number ∷ []) =
    if is_word name (codes "explain") && (is_plain file && is_word option (codes "--partitions"))
    then explained file (partitions_of number) else None
request_of _ = None
