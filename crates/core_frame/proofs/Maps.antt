-- Reads, writes and tests of mapped gates.
use Rattle.std.proofs.Common.{ℕ, ◌≡◌, refl, ap, List, [], ◌∷◌, map, ◌&&◌, ◌||◌, not}
use Rattle.gate_channels.specs.Gate.{Channel, Gate, no_channel, no_gate, channel_at, is_empty, some_live, some_free, is_open}
use Rattle.core_frame.specs.Frame.{Frame, gate_of}
use Rattle.core_frame.specs.Carried.{map_channel, map_gate, map_frame}
use Rattle.core_frame.proofs.Lookups.{read_map}

pub channel_map : {A B : Type 0} (m : A → B) (g : Gate A) (c : ℕ) → channel_at (map_gate m g) c ≡ map_channel m (channel_at g c)
channel_map m g c = read_map (map_channel m) g.channels c no_channel

pub gate_map : {A B : Type 0} (m : A → B) (f : Frame A) (g : ℕ) → gate_of (map_frame m f) g ≡ map_gate m (gate_of f g)
gate_map m f g = read_map (map_gate m) f.gates g no_gate

pub empty_map : {A B : Type 0} (m : A → B) (bs : List A) → is_empty (map m bs) ≡ is_empty bs
empty_map m [] = refl
empty_map m (b ∷ bs) = refl

pub live_map : {A B : Type 0} (m : A → B) (chs : List (Channel A)) → some_live (map (map_channel m) chs) ≡ some_live chs
live_map m [] = refl
live_map m (ch ∷ chs) = ap (λ z. ch.live || z) (live_map m chs)

pub free_map : {A B : Type 0} (m : A → B) (chs : List (Channel A)) → some_free (map (map_channel m) chs) ≡ some_free chs
free_map m [] = refl
free_map m (ch ∷ chs) = rw (empty_map m ch.batches) (ap (λ z. (ch.live && is_empty ch.batches) || z) (free_map m chs))

pub open_map : {A B : Type 0} (m : A → B) (chs : List (Channel A)) → is_open (map (map_channel m) chs) ≡ is_open chs
open_map m chs = rw (live_map m chs) (ap (λ z. not (some_live chs) || z) (free_map m chs))
