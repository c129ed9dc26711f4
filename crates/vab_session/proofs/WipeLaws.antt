-- A wipe is refused, or leaves the current slot with the empty images of the staged image's table:
-- so a slot that alone has images keeps them, or was wiped.
use Rattle.std.proofs.Common.{◌≡◌, ◌∙◌, ◌⊎◌, inl, inr, ℕ, zero, suc, ◌<◌, ◌==◌, Bool, true, false}
use Rattle.std.proofs.Common.{cond, not, List, [], ◌∷◌, map, Option, Some, None, refl, sym, ap}
use Rattle.std.proofs.Common.{subst, arith}
use Rattle.std.proofs.lemmas.Bool.{and_parts, and_from, cases_Bool}
use Rattle.std.proofs.lemmas.List.Elements.{All-cons}
use Rattle.std.proofs.lemmas.Slice.Eq.{slice_eq-Decides, bytes_eq-Decides}
use Rattle.std.specs.Bool.{Decides}
use Rattle.std.specs.Prelude.{All, nat_le}
use Rattle.vab_layout.specs.declared.layout.Part.{Part}
use Rattle.vab_layout.specs.Layout.{layout_of}
use Rattle.vab_layout.specs.Slots.{own_parts, other_slot}
use Rattle.vab_tables.specs.Spelling.{table_size_of}
use Rattle.vab_super_image.specs.declared.image.SuperImage.{SuperImage}
use Rattle.vab_super_image.specs.SuperImage.{super_image_of, first_filled, wiped as wiped_table}
use Rattle.vab_model.specs.declared.state.Image.{Image as ImageOfSlot}
use Rattle.vab_model.specs.declared.state.Phase.{Phase}
use Rattle.vab_model.specs.declared.state.Phase.TheVariants.{Idle, Installing, Staged, Merging}
use Rattle.vab_model.specs.declared.state.State.{State}
use Rattle.vab_model.specs.declared.command.Refusal.{Refusal}
use Rattle.vab_model.specs.declared.command.Refusal.TheVariants as refusals
use Rattle.vab_model.specs.declared.command.Reply.{Reply}
use Rattle.vab_model.specs.declared.command.Reply.TheVariants as replies
use Rattle.vab_model.specs.Commands.{UpdateSuper}
use Rattle.vab_model.specs.Effects.{Effect, IsOneOf, does, refuses, wanting}
use Rattle.vab_model.specs.Groups.{limits_of}
use Rattle.vab_model.specs.Plans.{same_group}
use Rattle.vab_model.specs.Staged.{is_sparse}
use Rattle.vab_model.specs.State.{images_at}
use Rattle.vab_model.specs.Wipe.{empty_image, empty_images, wiped as wiped_state, if_passing}
use Rattle.vab_model.specs.Wipe.{filled_refusal, judged_effect, staged_effect}
use Rattle.vab_device.specs.Mounted.{Mounted}
use Rattle.vab_device.specs.Updates.{effect_on, update_super, other_super, full_super, is_geometry}
use Rattle.vab_device.specs.Updates.{has_device, layout_at, wiped}
use Rattle.vab_session.proofs.OverlayLaws.{if_either}
use Rattle.vab_session.specs.Alone.{IsAlone, IsUnready, IsWiped, is_image, same_images}
use Rattle.vab_session.proofs.UntilLaws as until

-- ---- the same images

group_decides : (a b : Option (List ℕ)) → Decides (same_group a b) (a ≡ b)
group_decides None None = (λ yes. refl, λ same. refl)
group_decides None (Some b) = (λ yes. absurd cc, λ same. absurd cc)
group_decides (Some a) None = (λ yes. absurd cc, λ same. absurd cc)
group_decides (Some a) (Some b) = (
  λ yes. ap (λ (name : List ℕ). Some name) ((bytes_eq-Decides a b).0 yes),
  λ same. (bytes_eq-Decides a b).1 (let names : Some a ≡ Some b = same in cc),
)

image_made : (a b : ImageOfSlot)
    → a.name ≡ b.name
    → a.group ≡ b.group
    → a.bytes ≡ b.bytes
    → a ≡ b
image_made a b name group bytes =
    λ i. record { name = name i; group = group i; bytes = bytes i }

image_decides : (a b : ImageOfSlot) → Decides (is_image a b) (a ≡ b)
image_decides a b = (
  λ yes.
      let one = and_parts _ _ yes in
      let two = and_parts _ _ one.1 in
      image_made a b ((bytes_eq-Decides a.name b.name).0 one.0)
      ((group_decides a.group b.group).0 two.0)
      ((bytes_eq-Decides a.bytes b.bytes).0 two.1),
  λ same.
      and_from _ _
      ((bytes_eq-Decides a.name b.name).1 (ap (λ (x : ImageOfSlot). x.name) same))
      (and_from _ _
      ((group_decides a.group b.group).1 (ap (λ (x : ImageOfSlot). x.group) same))
      ((bytes_eq-Decides a.bytes b.bytes).1 (ap (λ (x : ImageOfSlot). x.bytes) same))),
)

-- the test tells whether they are one list
pub images_decided : (a b : List ImageOfSlot) → Decides (same_images a b) (a ≡ b)
unfolding same_images
images_decided a b = slice_eq-Decides image_decides a b (same_images a b) refl

-- a slot with these images has no others
pub not_wiped : (slot : ℕ) (images : List ImageOfSlot) (m : Mounted)
    → images_at m.state slot ≡ Some images
    → IsWiped slot images m
    → ⊥
not_wiped slot images m has wiped =
    let both : Some wiped.others ≡ Some images = sym wiped.has ∙ has in
    let yes = (images_decided wiped.others images).1 cc in
    let bad : false ≡ true = sym wiped.differ ∙ yes in
    cc

-- ---- the wiped slot

pub all_empty : (parts : List Part)
    → All (λ (i : ImageOfSlot). i.bytes ≡ []) (map empty_image parts)
all_empty [] = λ k d lt. absurd (omega (arith, lt))
all_empty (p ∷ ps) =
    All-cons (λ (i : ImageOfSlot). i.bytes ≡ []) (empty_image p) (map empty_image ps) refl
    (all_empty ps)

-- What a wipe leaves of a state: the images of the slot alone, and its groups, are others.
module _ (s : State) (i : SuperImage) where
  pub wiped_has : (slot : ℕ)
      → slot < 2
      → images_at (wiped_state s slot i) slot ≡ Some (empty_images slot i.table)
  wiped_has zero below = refl
  wiped_has (suc zero) below = refl
  wiped_has (suc (suc n)) below = absurd (omega (arith, below))

  pub wiped_beside : (slot : ℕ)
      → slot < 2
      → images_at (wiped_state s slot i) (other_slot slot) ≡ images_at s (other_slot slot)
  wiped_beside zero below = refl
  wiped_beside (suc zero) below = refl
  wiped_beside (suc (suc n)) below = absurd (omega (arith, below))

  pub record StaysBut (next : State) : Type 0 where
    pub cap : next.cap ≡ s.cap
    pub control : next.control ≡ s.control
    pub phase : next.phase ≡ s.phase

  pub wiped_stays : (slot : ℕ) → StaysBut (wiped_state s slot i)
  wiped_stays slot = by (slot == 0)
    where
      given : List ImageOfSlot
      given = empty_images slot i.table

      by : (b : Bool)
          → StaysBut
          (record (cond {A = State} b (record s { a = Some given }) (record s { b = Some given })) {
            groups = limits_of slot i.table.groups;
          })
      by true = record { cap = refl; control = refl; phase = refl }
      by false = record { cap = refl; control = refl; phase = refl }

-- ---- what a wipe comes to

-- this is the whole name of the first partition with extents in the staged image
pub record IsFilled (slot : ℕ) (staged : Option (List ℕ)) (name : List ℕ) : Type 0 where
  pub bytes : List ℕ
  pub is_staged : staged ≡ Some bytes
  pub image : SuperImage
  pub is : super_image_of slot bytes ≡ Some image
  pub filled : first_filled image.table.partitions ≡ Some name

-- a refusal of a wipe
abbrev pub IsWipeRefusal : (slot : ℕ) → Option (List ℕ) → Refusal → Type 0
IsWipeRefusal slot staged refusals.NotIdle = Unit {0}
IsWipeRefusal slot staged refusals.NothingStaged = Unit {0}
IsWipeRefusal slot staged refusals.Sparse = Unit {0}
IsWipeRefusal slot staged refusals.BadSuperImage = Unit {0}
IsWipeRefusal slot staged refusals.OtherGeometry = Unit {0}
IsWipeRefusal slot staged refusals.OtherDevice = Unit {0}
IsWipeRefusal slot staged (refusals.NotEmpty name) = IsFilled slot staged name
IsWipeRefusal slot staged (refusals.TableFull size most) = Unit {0}
IsWipeRefusal slot staged _ = ⊥

-- It is refused, and nothing is made of the device.
pub record IsRefused
    (slot : ℕ)
    (staged : Option (List ℕ))
    (reply : Reply)
    (later : List Mounted) : Type 0 where
  pub refusal : Refusal
  pub why : IsWipeRefusal slot staged refusal
  pub told : reply ≡ replies.Refused refusal
  pub none : later ≡ []

-- It is done where there is no update, and leaves the wiped device.
pub record IsDone
    (m : Mounted)
    (slot : ℕ)
    (staged : Option (List ℕ))
    (phase : Phase)
    (reply : Reply)
    (later : List Mounted) : Type 0 where
  pub bytes : List ℕ
  pub is_staged : staged ≡ Some bytes
  pub image : SuperImage
  pub is : super_image_of slot bytes ≡ Some image
  pub none_filled : first_filled image.table.partitions ≡ None
  pub idle : phase ≡ Idle
  pub told : reply ≡ replies.Done
  pub one : later ≡ wiped m slot image ∷ []

module _ (m : Mounted) (slot : ℕ) where
  -- one of both
  abbrev pub ComesTo : Option (List ℕ) → Phase → Effect Mounted → Type 0
  ComesTo staged phase e =
      IsRefused slot staged e.reply e.later ⊎ IsDone m slot staged phase e.reply e.later

  refused : (staged : Option (List ℕ)) (phase : Phase) (refusal : Refusal)
      → IsWipeRefusal slot staged refusal
      → ComesTo staged phase (refuses refusal)
  refused staged phase refusal why =
      inl (record { refusal = refusal; why = why; told = refl; none = refl })

  either : (staged : Option (List ℕ)) (phase : Phase) (b : Bool) (e f : Effect Mounted)
      → ComesTo staged phase e
      → ComesTo staged phase f
      → ComesTo staged phase (cond b e f)
  either staged phase true e f one other = one
  either staged phase false e f one other = other

  -- a refusal of an image, where it is one
  abbrev IsJudged : Option (List ℕ) → Option Refusal → Type 0
  IsJudged staged None = Unit {0}
  IsJudged staged (Some refusal) = IsWipeRefusal slot staged refusal

  other_judged : (staged : Option (List ℕ)) (same device : Bool)
      → IsJudged staged
      (cond (not same) (Some refusals.OtherGeometry)
      (cond (not device) (Some refusals.OtherDevice) None))
  other_judged staged false device = tt
  other_judged staged true false = tt
  other_judged staged true true = tt

  full_judged : (staged : Option (List ℕ)) (fits : Bool) (size most : ℕ)
      → IsJudged staged (cond fits None (Some (refusals.TableFull size most)))
  full_judged staged true size most = tt
  full_judged staged false size most = tt

  module _ (bytes : List ℕ) where
    judged_by : (i : SuperImage) (other : Option Refusal) (filled : Option (List ℕ))
        (full : Option Refusal)
        → super_image_of slot bytes ≡ Some i
        → first_filled i.table.partitions ≡ filled
        → IsJudged (Some bytes) other
        → IsJudged (Some bytes) full
        → ComesTo (Some bytes) Idle
        (if_passing other
        (if_passing (filled_refusal filled)
        (if_passing full (does replies.Done (wiped m slot i)))))
    judged_by i (Some refusal) filled full is at why fits = refused (Some bytes) Idle refusal why
    judged_by i None (Some name) full is at why fits =
        refused (Some bytes) Idle (refusals.NotEmpty name)
        (record { bytes = bytes; is_staged = refl; image = i; is = is; filled = at })
    judged_by i None None (Some refusal) is at why fits = refused (Some bytes) Idle refusal fits
    judged_by i None None None is at why fits = inr (record {
      bytes = bytes;
      is_staged = refl;
      image = i;
      is = is;
      none_filled = at;
      idle = refl;
      told = refl;
      one = refl;
    })

    judged : (image : Option SuperImage)
        → super_image_of slot bytes ≡ image
        → ComesTo (Some bytes) Idle
        (judged_effect (other_super m.places slot) (full_super m.places) (wiped m slot) image)
    judged None is = refused (Some bytes) Idle refusals.BadSuperImage tt
    judged (Some i) is =
        let size : ℕ = table_size_of (wiped_table i.table) in
        judged_by i (other_super m.places slot i) (first_filled i.table.partitions)
        (full_super m.places i) is refl
        (other_judged (Some bytes) (is_geometry m.places.geometry i.geometry)
        (has_device (layout_at m.places slot) i))
        (full_judged (Some bytes) (nat_le size m.places.geometry.max) size m.places.geometry.max)

  wipe_staged : (staged : Option (List ℕ))
      → ComesTo staged Idle
      (staged_effect (other_super m.places slot) (full_super m.places) (wiped m slot) slot staged)
  wipe_staged None = refused None Idle refusals.NothingStaged tt
  wipe_staged (Some bytes) =
      let e : Effect Mounted = judged_effect (other_super m.places slot) (full_super m.places)
      (wiped m slot)
      (super_image_of slot bytes) in
      either (Some bytes) Idle (is_sparse bytes) (refuses refusals.Sparse) (wanting true e)
      (refused (Some bytes) Idle refusals.Sparse tt)
      (judged bytes (super_image_of slot bytes) refl)

  pub wipe_comes : (staged : Option (List ℕ)) (phase : Phase)
      → ComesTo staged phase (update_super m slot staged phase)
  wipe_comes staged Idle = wipe_staged staged
  wipe_comes staged (Installing source plan) =
      refused staged (Installing source plan) refusals.NotIdle tt
  wipe_comes staged (Staged source left) = refused staged (Staged source left) refusals.NotIdle tt
  wipe_comes staged (Merging target left) =
      refused staged (Merging target left) refusals.NotIdle tt

-- Where there is an update, nothing is done.
pub wipe_refused : (m : Mounted) (slot : ℕ) (staged : Option (List ℕ)) (phase : Phase)
    → (phase ≡ Idle → ⊥)
    → (update_super m slot staged phase).later ≡ []
wipe_refused m slot staged phase apart = elim (wipe_comes m slot staged phase) [
  | inl refused ↦ refused.none
  | inr done ↦ absurd (apart done.idle)
]

-- ---- a slot that alone has images

wiped_alone : (slot : ℕ) (images : List ImageOfSlot) (m : Mounted) (i : SuperImage)
    → same_images (empty_images slot i.table) images ≡ true
    → IsAlone slot images m
    → IsAlone slot images (wiped m slot i)
wiped_alone slot images m i same is =
    let given : List ImageOfSlot = empty_images slot i.table in
    let stays = wiped_stays m.state i slot in
    record {
      below = is.below;
      current = ap (λ c. c.current) stays.control ∙ is.current;
      has =
          wiped_has m.state i slot is.below
          ∙ ap (λ (l : List ImageOfSlot). Some l) ((images_decided given images).0 same);
      other = wiped_beside m.state i slot is.below ∙ is.other;
      unready = subst (IsUnready slot) (sym stays.phase) is.unready;
    }

wiped_ends : (slot : ℕ) (images : List ImageOfSlot) (m : Mounted) (i : SuperImage)
    → same_images (empty_images slot i.table) images ≡ false
    → slot < 2
    → IsWiped slot images (wiped m slot i)
wiped_ends slot images m i differ below = record {
  others = empty_images slot i.table;
  has = wiped_has m.state i slot below;
  empty = all_empty (own_parts slot (layout_of i.table).parts);
  differ = differ;
}

-- What holds of it stays so, or it stops, since the slot was wiped.
module _ (Stops Stands : Mounted → Type 0) (apart : (m : Mounted) → Stands m → Stops m → ⊥)
    (slot : ℕ) (images : List ImageOfSlot)
    (stops : (x : Mounted) → IsWiped slot images x → Stops x)
    (stands : (x : Mounted) → IsAlone slot images x → Stands x) where
  abbrev Makes : Mounted → List Mounted → Type 0
  Makes m later = until.Makes Stops Stands apart m later

  wipe_made : (m : Mounted) (i : SuperImage)
      → IsAlone slot images m
      → Makes m (wiped m slot i ∷ [])
  wipe_made m i alone =
      elim (cases_Bool (same_images (empty_images slot i.table) images)) [
        | inl same ↦
            until.made_all Stops Stands apart m (wiped m slot i ∷ []) (stands m alone)
            (one (stands (wiped m slot i) (wiped_alone slot images m i same alone)))
        | inr differ ↦
            until.made_stop Stops Stands apart m (wiped m slot i)
            (stops (wiped m slot i) (wiped_ends slot images m i differ alone.below))
      ]
    where
      one : Stands (wiped m slot i) → (x : Mounted) → IsOneOf (wiped m slot i ∷ []) x → Stands x
      one next x (inl here) = subst Stands (sym here) next
      one next x (inr none) = absurd none

  pub wipe_makes : (m : Mounted) (staged : Option (List ℕ))
      → IsAlone slot images m
      → Makes m (effect_on m staged UpdateSuper).later
  wipe_makes m staged alone =
      if_either (λ e. Makes m e.later) m.state.overlay
      (update_super m m.state.control.current staged m.state.phase)
      (until.made_nothing Stops Stands apart m (stands m alone))
      (subst (λ (n : ℕ). Makes m (update_super m n staged m.state.phase).later) (sym alone.current)
      (elim (wipe_comes m slot staged m.state.phase) [
        | inl refused ↦
            subst (λ (l : List Mounted). Makes m l) (sym refused.none)
            (until.made_nothing Stops Stands apart m (stands m alone))
        | inr done ↦
            subst (λ (l : List Mounted). Makes m l) (sym done.one)
            (wipe_made m done.image alone)
      ]))
