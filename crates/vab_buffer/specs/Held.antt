-- A disk over a store of runs, of which some sectors are held back.
use Rattle.std.specs.Prelude.{◌≡◌, ◌⊎◌, ℕ, List, Result, OnOk, OnErr}
use Rattle.vab_disk.specs.declared.disk.Disk.{Ghosts as DiskGhosts}
use Rattle.vab_disk.specs.Disk.{Image, Outcome, Leaves, Faults, DiskFailed}
use Rattle.vab_buffer.specs.declared.store.RunStore.{Ghosts}
use Rattle.vab_buffer.specs.declared.run.Run.{Run}
use Rattle.vab_buffer.specs.Run.{over, IsKept}

-- the store's members as those of a disk
abbrev pub as_disk : {S : Type 0} → Ghosts S → DiskGhosts S
as_disk g = record {
  is_modelled = g.is_modelled;
  size = g.size;
  seen = g.seen;
  may_leave = g.may_leave;
  told = g.told;
  input_left = g.input_left;
  heard = g.heard;
  faults = g.faults;
  moment = g.moment;
  outcomes = g.outcomes;
}

-- what a read gives: what is held back, or what the store gives
abbrev pub held_seen : {S : Type 0} → Ghosts S → S → Run → Image
held_seen g store held = over (g.seen store) held

-- what a crash may leave: what it may leave in the store, or what is held back
abbrev pub held_leave : {S : Type 0} → Ghosts S → S → Run → ℕ → List ℕ → Type 0
held_leave g store held s b = g.may_leave store s b ⊎ IsKept held s b

-- the store's outcomes, and those of this moment
abbrev pub held_outcomes : {S : Type 0} → Ghosts S → S → Run → ℕ → Outcome → Type 0
held_outcomes g store held t o =
    g.outcomes store t o ⊎ Leaves (g.told store) (held_leave g store held) o

-- Faults of the disk's calls. One that a later try made good is none of them.
abbrev pub faults_of : ℕ → Faults
faults_of n = record { disk = n; source = 0; sink = 0 }

-- The disk's members, by the store, what is held back, and how often its calls failed.
abbrev pub disk_over : {S D : Type 0} → Ghosts S → (D → S) → (D → Run) → (D → ℕ) → DiskGhosts D
disk_over g store_of held_of failed = record {
  is_modelled = g.is_modelled;
  size = λ d. g.size (store_of d);
  seen = λ d. held_seen g (store_of d) (held_of d);
  may_leave = λ d. held_leave g (store_of d) (held_of d);
  told = λ d. g.told (store_of d);
  input_left = λ d. g.input_left (store_of d);
  heard = λ d. g.heard (store_of d);
  faults = λ d. faults_of (failed d);
  moment = λ d. g.moment (store_of d);
  outcomes = λ d. held_outcomes g (store_of d) (held_of d);
}

-- what was read ahead is what the store's sectors read
abbrev pub IsFetched : {S : Type 0} → Ghosts S → S → Run → Type 0
IsFetched g store ahead =
    g.is_modelled → (s : ℕ) (b : List ℕ) → IsKept ahead s b → b ≡ g.seen store s

-- A read of a disk over a store: a run that was read ahead failed, or none did. Behind it the call
-- is as any other. So one that is done has at most one failed call of the store behind it, and one
-- that fails one or two, the last of which is for the sector alone.
pub record FailsReading {S A E : Type 0}
    (g : Ghosts S)
    (old new : S)
    (result : Result A E) : Type 0 where
  pub ahead : Faults
  pub tried : (ahead ≡ g.faults old) ⊎ DiskFailed (g.faults old) ahead
  pub steady : OnOk result (g.faults new ≡ ahead)
  pub cause : OnErr result (DiskFailed ahead (g.faults new))
