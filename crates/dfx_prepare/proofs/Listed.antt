-- The listing of a folder is the one list of its paths in order.
use Rattle.std.proofs.Common.{◌≡◌, refl, ℕ, List, map, filter, Ok}
use Rattle.dfx_outside.specs.Contents.{Contents, is_inside, Lists}
use Rattle.dfx_prepare.specs.Listings.{listing, is_csv}
use Rattle.dfx_prepare.specs.Preparing.{folder_files}
use Rattle.dfx_prepare.proofs.Ordered.{in_order_is}

-- what is listed is the listing
pub listed : (all : Contents) (folder : List ℕ) (paths : List (List ℕ)) → Lists all folder paths → listing all folder ≡ paths
unfolding listing
listed all folder paths h = in_order_is (filter (is_inside folder) (map (λ f. f.0) all)) paths h.same h.sorted

-- so the files that are kept of it are those of the folder
pub listed_files : (all : Contents) (folder : List ℕ) (paths kept : List (List ℕ)) → Lists all folder paths → kept ≡ filter is_csv paths → folder_files all folder ≡ Ok kept
listed_files all folder paths kept h k = rw (h.there, listed all folder paths h, k) refl
