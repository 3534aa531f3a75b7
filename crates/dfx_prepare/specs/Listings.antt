-- Meaning: which files a table's location names.
use Rattle.std.specs.Prelude.{ℕ, Bool, List, [], ◌∷◌, map, filter, nat_eq, codes, if◌then◌else◌}
use Rattle.std.specs.List.{ends_with}
use Rattle.std.specs.Ordering.{nat_cmp, is_lt}
use Rattle.std.specs.Cmp.Lexicographic.{slice_cmp}
use Rattle.dfx_outside.specs.Contents.{Contents, is_inside}

-- a path comes before another in the order of their bytes
abbrev pub is_before : List ℕ → List ℕ → Bool
is_before path other = is_lt (slice_cmp nat_cmp path other)

-- a path in its place among paths that stand in order
abbrev pub put_in : List ℕ → List (List ℕ) → List (List ℕ)
put_in path [] = path ∷ []
put_in path (other ∷ more) =
    if is_before other path then other ∷ put_in path more else path ∷ other ∷ more

-- paths in the order of their bytes
abbrev pub in_order : List (List ℕ) → List (List ℕ)
in_order [] = []
in_order (path ∷ more) = put_in path (in_order more)

-- the paths directly inside a folder, in the order of their bytes
unfoldable pub listing : Contents → List ℕ → List (List ℕ)
listing all folder = in_order (filter (is_inside folder) (map (λ f. f.0) all))

-- a location that names a folder ends in `/`; any other names one file
abbrev pub is_folder : List ℕ → Bool
is_folder location = ends_with nat_eq location (codes "/")

-- the files of a folder of CSV files are those whose names end in `.csv`
abbrev pub is_csv : List ℕ → Bool
is_csv path = ends_with nat_eq path (codes ".csv")
