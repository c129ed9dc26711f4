-- The plan after an edit: that of the new table, with what was written.
use Rattle.std.proofs.Common.{◌≡◌, ◌∙◌, inl, inr, ℕ, Bool, true, false, List, [], ◌∷◌, refl, sym}
use Rattle.std.proofs.Common.{ap, length, arith}
use Rattle.std.specs.Prelude.{Option, Some, None, Contains, map, option_map, is_some, not, ◌&&◌}
use Rattle.std.specs.Prelude.{Any, All}
use Rattle.std.specs.Str.{bytes_eq}
use Rattle.std.proofs.lemmas.Bool.{cases_Bool}
use Rattle.std.proofs.lemmas.List.{length-map}
use Rattle.std.proofs.lemmas.List.Elements.{All-contains}
use Rattle.vab_disk.specs.Disk.{Image}
use Rattle.vab_names.specs.Names.{is_of_slot, in_slot, store_of, base_of}
use Rattle.vab_tables.specs.Rules.{NamesDiffer}
use Rattle.vab_layout.specs.declared.layout.Part.{Part as PartOfLayout}
use Rattle.vab_layout.specs.declared.layout.Layout.{Layout}
use Rattle.vab_layout.specs.Slots.{other_slot, own_parts, before_of, twins_by, is_updated}
use Rattle.vab_layout.specs.Slots.{IsTargetPartBeside, IsTargetBeside}
use Rattle.vab_blocks.proofs.Contained.{first, later, of_filter}
use Rattle.vab_builder.proofs.PartLaws.{named_is, named_own}
use Rattle.vab_model.specs.declared.state.PlanImage.TheVariants as planned
use Rattle.vab_model.specs.declared.state.PlanEntry.{PlanEntry}
use Rattle.vab_model.specs.Plans.{entry_named}
use Rattle.vab_device.specs.declared.device.Part.{Part}
use Rattle.vab_device.specs.declared.device.PartImage.TheVariants.{Written}
use Rattle.vab_device.specs.Kept.{block_sector, sectors_of, group_of}
use Rattle.vab_device.specs.Mounted.{bytes_at, blocks_there, entry_on}
use Rattle.vab_device.specs.Mounted.{planned_on as image_planned}
use Rattle.vab_device.specs.Phases.{planned_image, store_on, planned_on, plan_of}
use Rattle.vab_device.specs.Stores.{Scanned, first_named, scanned_named, sectors_seen}
use Rattle.vab_device.specs.Updates.{image_or, if_written, written_of, entry_by}
use Rattle.vab_device.specs.Updates.{plan_by}
use Rattle.vab_edit.specs.Carried.{planned_named, written_by, with_written, carried}
use Rattle.vab_edit.specs.Guards.{is_settled, is_written as image_written}
use Rattle.vab_edit.proofs.NamedLaws.{first_is, base_eq, HasImage, LeavesImages, blocks_of_some}
use Rattle.vab_edit.proofs.NamedLaws.{has_still}

-- ---- lists

pub map_among : {X Y : Type 0} (f g : X → Y) (xs : List X)
    → ((x : X) → Contains xs x → f x ≡ g x)
    → map f xs ≡ map g xs
map_among f g [] same = refl
map_among f g (x ∷ xs) same =
    let here = same x (first x xs) in
    let rest = map_among f g xs (λ y c. same y (later x xs y c)) in
    (λ i. here i ∷ rest i)

pub map_map : {X Y Z : Type 0} (f : X → Y) (g : Y → Z) (xs : List X)
    → map g (map f xs) ≡ map (λ x. g (f x)) xs
map_map f g [] = refl
map_map f g (x ∷ xs) = let rest = map_map f g xs in (λ i. g (f x) ∷ rest i)

-- ---- a partition whose image was read is updated

no_twin : (P : PartOfLayout → Type 0) (apart : Bool) (source : List PartOfLayout)
    → apart ≡ true
    → Any P (twins_by apart source)
    → ⊥
no_twin P true source is any = omega (arith, any.2)
no_twin P false source is any = absurd cc

pub image_updated : (apart : Bool) (slot : ℕ) (source : List PartOfLayout) (l : Layout)
    (p : PartOfLayout)
    → IsTargetBeside slot (twins_by apart source) source l.parts
    → Contains (own_parts slot l.parts) p
    → HasImage apart slot l p.name
    → is_updated p ≡ true
image_updated apart slot source l p is c b =
    let twins : List PartOfLayout = twins_by apart source in
    elim (All-contains (IsTargetPartBeside slot twins source l.parts) (own_parts slot l.parts) p
    is.each c).kept [
      | inl updated ↦ updated
      | inr none ↦ absurd (by_store b.store b.stored b.placed none)
    ]
  where
    by_store : (o : Option PartOfLayout)
        → first_named (store_of p.name) l.parts ≡ o
        → (o ≡ None → apart ≡ true)
        → (Any (λ s. s.name ≡ in_slot (other_slot slot) p.name) (twins_by apart source)
        × (p.blocks ≡ before_of slot (twins_by apart source) p.name)
        × All (λ s. s.name ≡ store_of p.name → ⊥) l.parts)
        → ⊥
    by_store None stored placed none =
        no_twin (λ (s : PartOfLayout). s.name ≡ in_slot (other_slot slot) p.name) apart source
        (placed refl) none.0
    by_store (Some s) stored placed none =
        let found = first_is (store_of p.name) l.parts s stored in
        All-contains (λ (q : PartOfLayout). q.name ≡ store_of p.name → ⊥) l.parts s none.2
        found.among found.named

-- the lengths of stores
store_length : (n : ℕ) (o : Option PartOfLayout)
    → option_map (λ (l : List ℕ). length l)
    (option_map (λ (q : PartOfLayout). sectors_of n q.blocks) o)
    ≡ option_map (λ (q : PartOfLayout). length q.blocks) o
unfolding sectors_of
store_length n None = refl
store_length n (Some q) = ap Some (length-map q.blocks (block_sector n))

map_length : (n : ℕ) (blocks : List ℕ) → length (sectors_of n blocks) ≡ length blocks
unfolding sectors_of
map_length n blocks = length-map blocks (block_sector n)

-- where a store stands, by its blocks
store_by : (n : ℕ) (o : Option PartOfLayout)
    → option_map (λ (q : PartOfLayout). sectors_of n q.blocks) o
    ≡ option_map (λ (l : List ℕ). sectors_of n l) (blocks_of_some o)
store_by n None = refl
store_by n (Some q) = refl

-- ---- what was planned under a name

planned_found : (slot : ℕ) (l : Layout) (ss : List Scanned) (name : List ℕ)
    (own : List PartOfLayout)
    → is_of_slot slot name ≡ true
    → ((q : PartOfLayout) → Contains own q → is_of_slot slot q.name ≡ true)
    → planned_named (base_of name) (map (planned_on l ss) own)
    ≡ option_map (planned_on l ss) (first_named name own)
planned_found slot l ss name [] is each = refl
planned_found slot l ss name (q ∷ qs) is each =
    let e = base_eq slot q.name name (each q (first q qs)) is in
    elim (cases_Bool (bytes_eq q.name name)) [
      | inl t ↦ rw (e, t) refl
      | inr other ↦
          rw (e, other) (planned_found slot l ss name qs is (λ x c. each x (later q qs x c)))
    ]

own_each : (slot : ℕ) (l : Layout) (q : PartOfLayout)
    → Contains (own_parts slot l.parts) q
    → is_of_slot slot q.name ≡ true
own_each slot l q c = (of_filter (λ (x : PartOfLayout). is_of_slot slot x.name) l.parts q c).1

written_image : (b : Bool) (o : Option Scanned)
    → b ≡ true
    → is_some o ≡ true
    → image_written (planned_image b o) ≡ true
written_image true (Some es) updated there = refl
written_image true None updated there = absurd cc
written_image false o updated there = absurd cc

-- an image that was read of a partition without a store was written in place
pub settled_there : (slot : ℕ) (l : Layout) (ss : List Scanned) (name : List ℕ)
    (part : PartOfLayout)
    → is_of_slot slot name ≡ true
    → first_named name (own_parts slot l.parts) ≡ Some part
    → first_named (store_of name) l.parts ≡ None
    → is_updated part ≡ true
    → is_some (scanned_named name ss) ≡ true
    → is_settled true (planned_named (base_of name) (plan_of slot l ss)) ≡ true
settled_there slot l ss name part own named stored updated there =
    let found : planned_named (base_of name) (plan_of slot l ss) ≡ Some (planned_on l ss part) =
    planned_found slot l ss name (own_parts slot l.parts) own (own_each slot l)
    ∙ ap (option_map (planned_on l ss)) named in
    let is = first_is name (own_parts slot l.parts) part named in
    let none : store_on l part.name ≡ None =
    ap (store_on l) is.named
    ∙ ap (option_map (λ (q : PartOfLayout). sectors_of l.device.first_logical_sector q.blocks))
    stored in
    let image : image_written (planned_image (is_updated part) (scanned_named part.name ss))
    ≡ true =
    written_image (is_updated part) (scanned_named part.name ss) updated
    (ap (λ (n : List ℕ). is_some (scanned_named n ss)) is.named ∙ there) in
    ap (is_settled true) found ∙ (λ i. not (is_some (none i)) && (true && image i))

-- ---- an edit

module _
    (apart : Bool) (slot : ℕ) (old new : Layout) (ss : List Scanned) (image : Image)
    (device : new.device ≡ old.device)
    (leaves : LeavesImages ss old new)
    (both : (name : List ℕ)
    → is_some (scanned_named name ss) ≡ true
    → HasImage apart slot old name)
    (was_updated : (q : PartOfLayout) → Contains (own_parts slot old.parts) q
    → is_some (scanned_named q.name ss) ≡ true → is_updated q ≡ true)
    (now_updated : (q : PartOfLayout) → Contains (own_parts slot new.parts) q
    → is_some (scanned_named q.name ss) ≡ true → is_updated q ≡ true)
    (differ : NamesDiffer (λ (q : PartOfLayout). q.name) new.parts) where
  f : PartOfLayout → Part
  f q = planned_on old ss q

  -- ---- what was planned under a name

  entry_found : (name : List ℕ) (own : List PartOfLayout)
      → is_of_slot slot name ≡ true
      → ((q : PartOfLayout) → Contains own q → is_of_slot slot q.name ≡ true)
      → entry_named (base_of name) (map (entry_on image) (map (planned_on old ss) own))
      ≡ option_map (λ (q : PartOfLayout). entry_on image (planned_on old ss q))
      (first_named name own)
  entry_found name [] is each = refl
  entry_found name (q ∷ qs) is each =
      let e = base_eq slot q.name name (each q (first q qs)) is in
      elim (cases_Bool (bytes_eq q.name name)) [
        | inl t ↦ rw (e, t) refl
        | inr other ↦
            rw (e, other) (entry_found name qs is (λ x c. each x (later q qs x c)))
      ]

  old_each : (q : PartOfLayout)
      → Contains (own_parts slot old.parts) q
      → is_of_slot slot q.name ≡ true
  old_each q c = (of_filter (λ (x : PartOfLayout). is_of_slot slot x.name) old.parts q c).1

  -- ---- one partition

  first_sector : new.device.first_logical_sector ≡ old.device.first_logical_sector
  first_sector = ap (λ (d : _). d.first_logical_sector) device

  -- a partition whose image was read
  record IsWritten (p q : PartOfLayout) : Type 0 where
    map : (planned_on old ss q).map ≡ (planned_on new ss p).map
    store : store_on old q.name ≡ store_on new p.name
    was : is_updated q ≡ true
    now : is_updated p ≡ true
    named : q.name ≡ p.name

  is_written : (p q : PartOfLayout) (es : Scanned)
      → Contains (own_parts slot new.parts) p
      → scanned_named p.name ss ≡ Some es
      → first_named p.name (own_parts slot old.parts) ≡ Some q
      → IsWritten p q
  is_written p q es c ex fo =
      let seen : is_some (scanned_named p.name ss) ≡ true =
      ap (λ (x : Option Scanned). is_some x) ex in
      let b = both p.name seen in
      let left = leaves p.name seen in
      let still = has_still apart slot old new p.name left b in
      let among = of_filter (λ (x : PartOfLayout). is_of_slot slot x.name) new.parts p c in
      let was = first_is p.name (own_parts slot old.parts) q fo in
      let blocks : q.blocks ≡ p.blocks =
      sym was.blocks ∙ named_own slot p.name old.parts among.1 ∙ sym left.part.blocks
      ∙ named_is p.name new.parts p differ among.0 refl in
      let os : ℕ = old.device.first_logical_sector in
      let ns : ℕ = new.device.first_logical_sector in
      record {
        map = λ i. sectors_of (sym first_sector i) (blocks i);
        store =
            ap (λ (n : List ℕ). store_on old n) was.named
            ∙ ap (option_map (λ (x : PartOfLayout). sectors_of os x.blocks)) b.stored
            ∙ store_by os b.store
            ∙ (λ i.
            option_map (λ (l : List ℕ). sectors_of (sym first_sector i) l)
            (sym still.store_blocks i))
            ∙ sym (store_by ns still.both.store)
            ∙ sym (ap (option_map (λ (x : PartOfLayout). sectors_of ns x.blocks))
            still.both.stored);
        was = was_updated q was.among
            (ap (λ (n : List ℕ). is_some (scanned_named n ss)) was.named ∙ seen);
        now = now_updated p c seen;
        named = was.named;
      }

  -- what is read before the stores are
  fresh : PartOfLayout → Part
  fresh p = planned_on new [] p

  nothing_written : (p q : PartOfLayout) (b : Bool)
      → written_by (planned_on new [] p) (planned_on old ss q) (planned_image b None)
      ≡ planned_on new [] p
  nothing_written p q false = refl
  nothing_written p q true = refl

  carried_is : (p : PartOfLayout)
      → Contains (own_parts slot new.parts) p
      → carried (plan_of slot old ss) (planned_on new [] p) ≡ planned_on new ss p
  carried_is p c =
      let own = (of_filter (λ (x : PartOfLayout). is_of_slot slot x.name) new.parts p c).1 in
      ap (with_written (planned_on new [] p))
      (planned_found slot old ss p.name (own_parts slot old.parts) own old_each)
      ∙ go (scanned_named p.name ss) (first_named p.name (own_parts slot old.parts)) refl refl
    where
      alike : scanned_named p.name ss ≡ None → planned_on new [] p ≡ planned_on new ss p
      alike ex = λ i. record {
        name = base_of p.name;
        group = p.group;
        map = sectors_of new.device.first_logical_sector p.blocks;
        store = store_on new p.name;
        image = planned_image (is_updated p) (sym ex i);
      }

      go : (x : Option Scanned) (o : Option PartOfLayout)
          → scanned_named p.name ss ≡ x
          → first_named p.name (own_parts slot old.parts) ≡ o
          → with_written (planned_on new [] p) (option_map (planned_on old ss) o)
          ≡ planned_on new ss p
      go None None ex fo = alike ex
      go None (Some q) ex fo =
          let named = (first_is p.name (own_parts slot old.parts) q fo).named in
          ap (λ (y : Option Scanned).
          written_by (planned_on new [] p) (planned_on old ss q) (planned_image (is_updated q) y))
          (ap (λ (n : List ℕ). scanned_named n ss) named ∙ ex)
          ∙ nothing_written p q (is_updated q)
          ∙ alike ex
      go (Some es) None ex fo =
          absurd (let b = both p.name (ap (λ (x : Option Scanned). is_some x) ex) in
          let bad : (let x : Option PartOfLayout = None in x ≡ Some b.part) =
          sym fo ∙ b.named in cc)
      go (Some es) (Some q) ex fo =
          let w = is_written p q es c ex fo in
          let was : planned_image (is_updated q) (scanned_named q.name ss)
          ≡ Written es.chunk es.exceptions =
          (λ i. planned_image (w.was i) ((ap (λ (n : List ℕ). scanned_named n ss) w.named
          ∙ ex) i)) in
          let now : planned_image (is_updated p) (scanned_named p.name ss)
          ≡ Written es.chunk es.exceptions =
          (λ i. planned_image (w.now i) (ex i)) in
          ap (written_by (planned_on new [] p) (planned_on old ss q)) was
          ∙ (λ i. record {
            name = base_of p.name;
            group = p.group;
            map = w.map i;
            store = w.store i;
            image = sym now i;
          })

  -- ---- its entry

  none_written : (p q : PartOfLayout) (b : Bool)
      → if_written (image_planned image (planned_on old ss q) (planned_image b None)) ≡ None
  none_written p q false = refl
  none_written p q true = refl

  unwritten : (p : PartOfLayout) (b : Bool)
      → image_planned image (planned_on new ss p) (planned_image b None) ≡ image_or b None
  unwritten p false = refl
  unwritten p true = refl

  image_is : (p : PartOfLayout)
      → Contains (own_parts slot new.parts) p
      → (x : Option Scanned) (o : Option PartOfLayout)
      → scanned_named p.name ss ≡ x
      → first_named p.name (own_parts slot old.parts) ≡ o
      → image_planned image (planned_on new ss p) (planned_image (is_updated p)
      (scanned_named p.name ss))
      ≡ image_or (is_updated p)
      (written_of (option_map (λ (q : PartOfLayout). entry_on image (planned_on old ss q)) o))
  image_is p c None None ex fo =
      ap (λ (y : Option Scanned).
      image_planned image (planned_on new ss p) (planned_image (is_updated p) y)) ex
      ∙ unwritten p (is_updated p)
  image_is p c None (Some q) ex fo =
      let named = (first_is p.name (own_parts slot old.parts) q fo).named in
      let none : if_written (image_planned image (planned_on old ss q)
      (planned_image (is_updated q) (scanned_named q.name ss))) ≡ None =
      ap (λ (y : Option Scanned).
      if_written (image_planned image (planned_on old ss q) (planned_image (is_updated q) y)))
      (ap (λ (n : List ℕ). scanned_named n ss) named ∙ ex)
      ∙ none_written p q (is_updated q) in
      ap (λ (y : Option Scanned).
      image_planned image (planned_on new ss p) (planned_image (is_updated p) y)) ex
      ∙ unwritten p (is_updated p)
      ∙ ap (image_or (is_updated p)) (sym none)
  image_is p c (Some es) None ex fo =
      absurd (let b = both p.name (ap (λ (x : Option Scanned). is_some x) ex) in
      let bad : (let x : Option PartOfLayout = None in x ≡ Some b.part) = sym fo ∙ b.named in cc)
  image_is p c (Some es) (Some q) ex fo =
      let w = is_written p q es c ex fo in
      let was : planned_image (is_updated q) (scanned_named q.name ss)
      ≡ Written es.chunk es.exceptions =
      (λ i. planned_image (w.was i) ((ap (λ (n : List ℕ). scanned_named n ss) w.named ∙ ex) i)) in
      let now : planned_image (is_updated p) (scanned_named p.name ss)
      ≡ Written es.chunk es.exceptions =
      (λ i. planned_image (w.now i) (ex i)) in
      ap (image_planned image (planned_on new ss p)) now
      ∙ (λ i. planned.Written
      (bytes_at image (sectors_seen es.chunk (blocks_there (sym w.store i)) es.exceptions 0
      (sym w.map i))) (length es.exceptions))
      ∙ (λ i. image_or (sym w.now i) (if_written (image_planned image (planned_on old ss q)
      (sym was i))))

  entry_is : (p : PartOfLayout)
      → Contains (own_parts slot new.parts) p
      → entry_on image (planned_on new ss p)
      ≡ entry_by new (map (entry_on image) (plan_of slot old ss)) p
  entry_is p c =
      let own = (of_filter (λ (x : PartOfLayout). is_of_slot slot x.name) new.parts p c).1 in
      let found = entry_found p.name (own_parts slot old.parts) own old_each in
      let seen = image_is p c (scanned_named p.name ss)
      (first_named p.name (own_parts slot old.parts)) refl refl
      ∙ ap (λ (e : Option PlanEntry). image_or (is_updated p) (written_of e)) (sym found) in
      let blocks = map_length new.device.first_logical_sector p.blocks in
      let store = store_length new.device.first_logical_sector (first_named
      (store_of p.name) new.parts) in
      (λ i. record {
        name = base_of p.name;
        group = group_of p.group;
        blocks = blocks i;
        store = store i;
        image = seen i;
      })

  -- ---- the plan

  -- the plan of the new table alone, with what was written, is that with the scanned stores
  pub plan_carried : map (carried (plan_of slot old ss)) (plan_of slot new []) ≡ plan_of slot new ss
  plan_carried =
      map_map (planned_on new []) (carried (plan_of slot old ss)) (own_parts slot new.parts)
      ∙ map_among (λ p. carried (plan_of slot old ss) (planned_on new [] p)) (planned_on new ss)
      (own_parts slot new.parts) carried_is

  -- and it means the new table's entries with what was written
  pub plan_means : map (entry_on image) (plan_of slot new ss)
      ≡ plan_by slot new (map (entry_on image) (plan_of slot old ss))
  plan_means =
      map_map (planned_on new ss) (entry_on image) (own_parts slot new.parts)
      ∙ map_among (λ p. entry_on image (planned_on new ss p))
      (entry_by new (map (entry_on image) (plan_of slot old ss)))
      (own_parts slot new.parts) entry_is
