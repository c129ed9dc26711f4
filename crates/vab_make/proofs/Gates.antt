-- All parts of the device, kept and marked, and the outcomes of the two gates.
use Rattle.std.proofs.Common.{◌≡◌, ◌≢◌, ◌∙◌, inl, inr, ⊎_elim, ℕ, ◌+◌, ◌*◌, ◌/◌, ◌<◌, ◌≤◌, ◌^◌}
use Rattle.std.proofs.Common.{List, length, get_or, take, refl, sym, ap, subst, arith}
use Rattle.vab_disk.specs.Disk.{Image, Outcome, LeavesWith, LeavesEither, IsSettled, set_sector}
use Rattle.vab_disk.specs.Written.{set_here, set_there}
use Rattle.vab_disk.specs.Calls.{InSectors}
use Rattle.vab_gate.proofs.Blocks.{sectors_same}
use Rattle.vab_space.specs.Space.{blocks_of}
use Rattle.vab_bootctl.specs.Control.{control_of}
use Rattle.vab_marks.specs.Mark.{mark_of}
use Rattle.vab_geometry.specs.declared.geometry.Geometry.{Geometry}
use Rattle.vab_geometry.specs.Reading.{geometry_of}
use Rattle.vab_copies.specs.Copies.{zeros}
use Rattle.vab_lpstore.specs.Layout.{copy_sectors, primary_of, backup_of}
use Rattle.vab_set.specs.declared.set.SetImage.{SetImage}
use Rattle.vab_make.specs.Made.{set_blocks, made_geometry}
use Rattle.vab_make.specs.Making.{IsMade, LeavesMaking}
use Rattle.vab_make.specs.Prepared.{IsMost, IsPrepared}
use Rattle.vab_make.specs.Steps.{HoldsImages, SameBelow, HasControl, HasPlaces, HasAll}
use Rattle.vab_make.specs.Touched.{IsOfContents}
use Rattle.vab_make.proofs.BlankLaws.{blank_none}
use Rattle.vab_make.proofs.BlockLaws.{blocks_kept}
use Rattle.vab_make.proofs.StateLaws.{IsIdle, all_made}
use Rattle.vab_make.proofs.TouchLaws.{never_mark}

-- ---- what later writes leave

pub places_kept : (max : ℕ) (text : List ℕ) (old new : Image)
    → IsMost max
    → ((s : ℕ) → 4096 ≤ s → s < 6144 → new s ≡ old s)
    → HasPlaces max text old
    → HasPlaces max text new
unfolding primary_of backup_of
places_kept max text old new most same has =
    let g : Geometry = made_geometry max in
    let n : ℕ = copy_sectors g in
    let few : max / 512 ≤ 128 = omega (arith, most.most) in
    record {
      primary = ap geometry_of (same 4104 (omega arith) (omega arith)) ∙ has.primary;
      backup = ap geometry_of (same 4112 (omega arith) (omega arith)) ∙ has.backup;
      table = record {
        primary =
            ap (λ (l : List ℕ). take (length text) l)
            (sectors_same n (primary_of g 0) old new
            (λ k lt. same _ (omega arith) (omega (arith, lt, few))))
            ∙ has.table.primary;
        backup =
            ap (λ (l : List ℕ). take (length text) l)
            (sectors_same n (backup_of g 0) old new
            (λ k lt. same _ (omega arith) (omega (arith, lt, few))))
            ∙ has.table.backup;
      };
    }

pub images_kept : (n : ℕ) (set : List SetImage) (old new : Image)
    → ((s : ℕ) → 6144 ≤ s → new s ≡ old s)
    → HoldsImages n set old
    → HoldsImages n set new
images_kept n set old new same holds = λ j d lt.
    blocks_kept (blocks_of (get_or set j d).size) (6144 + 8 * set_blocks (take j set))
    (get_or set j d).bytes old new
    (λ s first last. same s (omega (arith, first)))
    (holds j d lt)

-- the places, then the images, then boot control
pub all_of : (set : List SetImage) (max : ℕ) (text : List ℕ) (one two new : Image)
    → IsMost max
    → HasPlaces max text one
    → SameBelow 6144 one two
    → HoldsImages (length set) set two
    → HasControl two new
    → HasAll set max text new
all_of set max text one two new most places same images control = record {
  places =
      places_kept max text one new most
      (λ s first last. control.others s (λ e. omega (arith, e, first)) ∙ same s last)
      places;
  images =
      images_kept (length set) set two new
      (λ s first. control.others s (λ e. omega (arith, e, first)))
      images;
  control = control.control;
}

-- and what the mark leaves
all_kept : (set : List SetImage) (max : ℕ) (text : List ℕ) (old new : Image)
    → IsMost max
    → ((s : ℕ) → s ≢ 2048 → new s ≡ old s)
    → HasAll set max text old
    → HasAll set max text new
all_kept set max text old new most same has = record {
  places =
      places_kept max text old new most
      (λ s first last. same s (λ e. omega (arith, e, first)))
      has.places;
  images =
      images_kept (length set) set old new
      (λ s first. same s (λ e. omega (arith, e, first)))
      has.images;
  control = ap control_of (same 4 (λ e. omega (arith, e))) ∙ has.control;
}

pub marked : (set : List SetImage) (limit max size : ℕ) (text mark : List ℕ) (image : Image)
    → size < 2 ^ 55
    → IsPrepared set limit max size text
    → HasAll set max text image
    → IsIdle mark
    → IsMade set limit max size (set_sector image 2048 mark)
marked set limit max size text mark image small is has idle =
    let new : Image = set_sector image 2048 mark in
    all_made set limit max size text new small is
    (all_kept set max text image new is.most
    (λ s other. set_there image 2048 mark s other)
    has)
    (subst IsIdle (sym (set_here image 2048 mark 2048 refl)) idle)

-- the places, where the mark is written
pub places_marked : (max : ℕ) (text mark : List ℕ) (old new : Image)
    → IsMost max
    → new ≡ set_sector old 2048 mark
    → HasPlaces max text old
    → HasPlaces max text new
places_marked max text mark old new most is has =
    places_kept max text old new most
    (λ s first last.
    ap (λ (i : Image). i s) is ∙ set_there old 2048 mark s (λ e. omega (arith, e, first)))
    has

-- ---- outcomes

module _
    (told : List ℕ) (set : List SetImage) (limit max size : ℕ) (old : Image)
    (enough : 6152 ≤ size) where
  -- writes between the gates, while the mark is zeros
  pub blank_making : (told' : List ℕ) (seen : Image) (may_leave : ℕ → List ℕ → Type 0)
      → told' ≡ told
      → IsSettled seen may_leave
      → seen 2048 ≡ zeros
      → (o : Outcome)
      → LeavesWith (InSectors (IsOfContents set max)) told' may_leave o
      → LeavesMaking told set limit max size old o
  blank_making told' seen may_leave same settled blank o leaves = record {
    told_so_far = leaves.told_so_far ∙ same;
    either = inr (inl (blank_none size o.image (omega (arith, enough))
        (⊎_elim
        (λ was. settled 2048 (o.image 2048) was ∙ blank)
        (λ w. absurd (never_mark set max w))
        (leaves.each_sector 2048))));
  }

  -- the first gate
  pub first_making : (o : Outcome)
      → LeavesEither told old (set_sector old 2048 zeros) o
      → LeavesMaking told set limit max size old o
  first_making o leaves = record {
    told_so_far = leaves.told_so_far;
    either = ⊎_elim (λ was. inl was)
        (λ now. inr (inl (blank_none size o.image (omega (arith, enough))
        (ap (λ (i : Image). i 2048) now ∙ set_here old 2048 zeros 2048 refl))))
        leaves.either;
  }

  -- the last
  pub last_making : (told' mark : List ℕ) (mid : Image)
      → told' ≡ told
      → mid 2048 ≡ zeros
      → IsMade set limit max size (set_sector mid 2048 mark)
      → (o : Outcome)
      → LeavesEither told' mid (set_sector mid 2048 mark) o
      → LeavesMaking told set limit max size old o
  last_making told' mark mid same blank made o leaves = record {
    told_so_far = leaves.told_so_far ∙ same;
    either = ⊎_elim
        (λ was. inr (inl (blank_none size o.image (omega (arith, enough))
        (ap (λ (i : Image). i 2048) was ∙ blank))))
        (λ now. inr (inr (subst (λ (i : Image). IsMade set limit max size i) (sym now) made)))
        leaves.either;
  }
