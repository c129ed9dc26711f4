-- What the calls of a disk do, and what a crash may leave of it.
use Rattle.std.specs.Prelude.{◌≡◌, ◌⊎◌, ℕ, ◌+◌, ◌-◌, ◌^◌, ◌≤◌, ◌<◌, min, List, length, slice_index}
use Rattle.std.specs.Prelude.{if◌then◌else◌, ◌==◌}

-- The bytes of each sector. How many sectors there are is said beside it.
abbrev pub Image : Type 0
Image = ℕ → List ℕ

-- the bytes of a sector: 512 of them
pub record IsSector (bytes : List ℕ) : Type 0 where
  pub long : length bytes ≡ 512
  pub small : (k : ℕ) → slice_index bytes k < 256

-- the image with other bytes in one sector
abbrev pub set_sector : Image → ℕ → List ℕ → Image
set_sector image at bytes = λ s. if s == at then bytes else image s

-- What a cut of power leaves: the bytes told until then, and the disk.
pub record Outcome : Type 0 where
  pub told : List ℕ
  pub image : Image

-- Each sector by itself has a value that a crash may leave there.
pub record Leaves (told : List ℕ) (may_leave : ℕ → List ℕ → Type 0) (o : Outcome) : Type 0 where
  pub told_so_far : o.told ≡ told
  pub each_sector : (s : ℕ) → may_leave s (o.image s)

-- Nothing is pending: a crash leaves what a read gives.
abbrev pub IsSettled : Image → (ℕ → List ℕ → Type 0) → Type 0
IsSettled seen may_leave = (s : ℕ) (b : List ℕ) → may_leave s b → b ≡ seen s

-- Time goes on: the outcomes since a moment are those from before, and such ones as have P.
pub record Adds {D : Type 0}
    (moment : D → ℕ)
    (outcomes : D → ℕ → Outcome → Type 0)
    (old new : D)
    (P : Outcome → Type 0) : Type 0 where
  pub later : moment old ≤ moment new
  pub keeps : (t : ℕ) (o : Outcome) → t ≤ moment old → outcomes old t o → outcomes new t o
  pub adds : (t : ℕ) (o : Outcome)
      → t ≤ moment old
      → outcomes new t o
      → outcomes old t o ⊎ P o

-- nothing else: no outcome is new
abbrev pub Nothing : Outcome → Type 0
Nothing o = ⊥

-- these bytes, in this sector
abbrev pub IsAt : ℕ → List ℕ → ℕ → List ℕ → Type 0
IsAt at bytes s b = (s ≡ at) × (b ≡ bytes)

-- a sector may hold no more than before, but for these values
abbrev pub NoMoreBut : (W old new : ℕ → List ℕ → Type 0) → Type 0
NoMoreBut W old new = (s : ℕ) (b : List ℕ) → new s b → old s b ⊎ W s b

-- the values of each sector after writes: those from before, and such as were written
pub record Writes (W : ℕ → List ℕ → Type 0) (old new : ℕ → List ℕ → Type 0) : Type 0 where
  pub keeps : (s : ℕ) (b : List ℕ) → old s b → new s b
  pub adds : NoMoreBut W old new

-- Each sector by itself has a value that a crash could have left before, or one of these.
pub record LeavesWith
    (W : ℕ → List ℕ → Type 0)
    (told : List ℕ)
    (may_leave : ℕ → List ℕ → Type 0)
    (o : Outcome) : Type 0 where
  pub told_so_far : o.told ≡ told
  pub each_sector : (s : ℕ) → may_leave s (o.image s) ⊎ W s (o.image s)

-- the one disk or the other, with nothing more told
pub record LeavesEither (told : List ℕ) (old new : Image) (o : Outcome) : Type 0 where
  pub told_so_far : o.told ≡ told
  pub either : (o.image ≡ old) ⊎ (o.image ≡ new)

-- each sector is that of the one disk or that of the other
abbrev pub IsBlend : Image → Image → Image → Type 0
IsBlend old new image = (s : ℕ) → (image s ≡ old s) ⊎ (image s ≡ new s)

-- a blend, with nothing more told
pub record LeavesBlend (told : List ℕ) (old new : Image) (o : Outcome) : Type 0 where
  pub told_so_far : o.told ≡ told
  pub blend : IsBlend old new o.image

-- the same values
pub record SameHoldings (old new : ℕ → List ℕ → Type 0) : Type 0 where
  pub keeps : (s : ℕ) (b : List ℕ) → old s b → new s b
  pub no_more : (s : ℕ) (b : List ℕ) → new s b → old s b

-- a read after a write that failed gives the old bytes or the new ones
abbrev pub MayBeSet : ℕ → List ℕ → Image → Image → Type 0
MayBeSet at bytes old new = (new ≡ old) ⊎ (new ≡ set_sector old at bytes)

-- How often each kind of call has failed.
pub record Faults : Type 0 where
  pub disk : ℕ
  pub source : ℕ
  pub sink : ℕ

-- no count falls
pub record NoFewer (before now : Faults) : Type 0 where
  pub disk : before.disk ≤ now.disk
  pub source : before.source ≤ now.source
  pub sink : before.sink ≤ now.sink

-- a count that is one higher, or stands at its type's end
abbrev pub one_more : ℕ → ℕ
one_more n = min (n + 1) (2 ^ 64 - 1)

-- One call failed, and it was one of the disk: no other call failed. Since any call may fail, none
-- was made behind it.
abbrev pub DiskFailed : Faults → Faults → Type 0
DiskFailed before now = now ≡ record before { disk = one_more before.disk }

-- one call failed, and it was a hearing
abbrev pub SourceFailed : Faults → Faults → Type 0
SourceFailed before now = now ≡ record before { source = one_more before.source }

-- one call failed, and it was one that tells
abbrev pub SinkFailed : Faults → Faults → Type 0
SinkFailed before now = now ≡ record before { sink = one_more before.sink }

-- What was told and what of the input was left when bytes were heard.
pub record Hearing : Type 0 where
  pub told : List ℕ
  pub input_left : List ℕ

-- A run of disk calls tells nothing, hears nothing, and keeps the size. No count of faults falls.
pub record Quiet {D : Type 0}
    (is_modelled : Type 0)
    (size_of : D → ℕ)
    (told_of left_of : D → List ℕ)
    (heard_by : D → List Hearing)
    (faults_of : D → Faults)
    (old new : D) : Type 0 where
  pub size : size_of new ≡ size_of old
  pub told : is_modelled → told_of new ≡ told_of old
  pub left : is_modelled → left_of new ≡ left_of old
  pub heard : is_modelled → heard_by new ≡ heard_by old
  pub counts : NoFewer (faults_of old) (faults_of new)
