-- A sector for the status of a flash in place is free.
use Rattle.std.proofs.Common.{◌≡◌, ◌≢◌, ⊎_elim, ℕ, List, [], ◌∷◌}
use Rattle.std.proofs.Common.{sym, subst, arith, cond, true, false, refl}
use Rattle.std.specs.Prelude.{Bool, Option, Some, None, map, All, AllPairs}
use Rattle.std.specs.Str.{bytes_eq}
use Rattle.std.proofs.lemmas.List.{length-map}
use Rattle.std.proofs.lemmas.List.Elements.{All-cons, All-map}
use Rattle.std.proofs.lemmas.List.Kept.{AllPairs-cons}
use Rattle.vab_disk.specs.Disk.{Image}
use Rattle.vab_marks.specs.declared.status.PartStatus.{PartStatus}
use Rattle.vab_names.proofs.NameCases.{other_name}
use Rattle.vab_statuses.specs.Statuses.{written_in, status_named, IsFirstFree, IsFreeOrLast}
use Rattle.vab_statuses.proofs.ReadLaws.{statuses_found}
use Rattle.vab_statuses.proofs.StatusesLaws.{names_differ, first_is_free}
use Rattle.vab_builder.proofs.Counting.{pairs_map}
use Rattle.vab_layout.specs.declared.layout.Part.{Part as PartOfLayout}
use Rattle.vab_layout.specs.Layout.{layout_of}
use Rattle.vab_layout.specs.Slots.{other_slot, own_parts}
use Rattle.vab_device.specs.declared.device.Device.{Device}
use Rattle.vab_device.specs.Kept.{IsDevice}
use Rattle.vab_device.specs.Reading.{Represents}
use Rattle.vab_flash.specs.declared.chosen.Destination.TheVariants.{Blocks}
use Rattle.vab_flash.specs.Chosen.{IsChosen}
use Rattle.vab_flash.proofs.DeadLaws.{Tables}
use Rattle.vab_flash.proofs.FewLaws.{all_written, IsNamed, named_in_list, few_names}
use Rattle.vab_flash.proofs.InstallingLaws.{Installs, statuses_were}
use Rattle.vab_flash.proofs.InPlaceLaws.{i, p, t}
use Rattle.vab_flash.proofs.JoinLaws.{unread_unnamed, statuses_own}
use Rattle.vab_flash.proofs.PlacedLaws.{Placed}

test_other : (b : Bool) (st : PartStatus) (o : Option PartStatus)
    → cond b (Some st) o ≡ None
    → (b ≡ false) × (o ≡ None)
test_other true st o h = absurd cc
test_other false st o h = (refl, h)

-- where none has the name, each has another
none_named : (name : List ℕ) (sts : List PartStatus)
    → status_named name sts ≡ None
    → All (λ st. name ≢ st.name) sts
none_named name [] none = λ k d lt. absurd (omega (arith, lt))
none_named name (st ∷ sts) none =
    let t = test_other (bytes_eq st.name name) st (status_named name sts) none in
    All-cons (λ (x : PartStatus). name ≢ x.name) st sts
    (λ same. other_name st.name name t.0 (sym same))
    (none_named name sts t.1)

module _ (d : Device) (size : ℕ) (old : Image) (device_is : IsDevice d size)
    (is : Represents d size old) (name : List ℕ) (staged : Option (List ℕ)) (place : ℕ)
    (bytes : List ℕ) (chosen : IsChosen d name staged place Blocks bytes) where
  abbrev install : Installs d size old
  install = i d size old device_is is name staged place bytes chosen

  abbrev placed : Placed d size old install name place
  placed = p d size old device_is is name staged place bytes chosen

  abbrev tables : Tables d size old install
  tables = t d size old device_is is name staged place bytes chosen

  abbrev owns : List PartOfLayout
  owns = own_parts (other_slot install.slot) (layout_of install.target).parts

  abbrev written : List PartStatus
  written = written_in install.statuses

  -- statuses in all sectors would be of more partitions than the target has
  too_many : IsFirstFree old None → ⊥
  too_many none =
      let were = statuses_were d size old install in
      let listed = statuses_found 64 old install.statuses were in
      let all = all_written 2049 install.statuses
      (sym (first_is_free old install.statuses None were none)) in
      let others : All (λ (st : PartStatus). name ≢ st.name) written =
      none_named name written
      (unread_unnamed install.base.apart name (other_slot install.slot) (layout_of install.target)
      written old install.scanned install.reads.stores placed.unread) in
      let owned : All (λ (st : PartStatus). IsNamed owns st.name) written =
      statuses_own install.base.apart (other_slot install.slot) (layout_of install.target) written
      old install.scanned install.reads.stores in
      let names : List (List ℕ) = map (λ (st : PartStatus). st.name) written in
      let named : All (IsNamed owns) (name ∷ names) =
      All-cons (IsNamed owns) name names
      (subst (IsNamed owns) placed.named (named_in_list owns placed.part placed.there))
      (All-map (IsNamed owns) (λ (st : PartStatus). st.name) written owned) in
      let differ : AllPairs (λ a b. a ≢ b) (name ∷ names) =
      AllPairs-cons (λ a b. a ≢ b) name names
      (All-map (λ (n : List ℕ). name ≢ n) (λ (st : PartStatus). st.name) written others)
      (pairs_map (λ a b. a ≢ b) (λ (st : PartStatus). st.name) written
      (names_differ install.statuses listed.differ)) in
      omega (
        arith,
        few_names owns (name ∷ names) named differ,
        length-map written (λ (st : PartStatus). st.name),
        all,
        listed.all,
        tables.target.own.few,
      )

  -- the sector is the first free one
  pub free_there : (at : ℕ) → IsFreeOrLast old at → IsFirstFree old (Some at)
  free_there at found = ⊎_elim (λ first. first) (λ last. absurd (too_many last.1)) found
