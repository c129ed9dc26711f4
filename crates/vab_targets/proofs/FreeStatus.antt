-- A flash that is done is of a partition that no status names, so a sector of statuses is free.
use Rattle.std.proofs.Common.{◌≡◌, ◌≢◌, ◌⊎◌, ◌∙◌, inl, inr, ℕ, ◌+◌, ◌≤◌, Bool, true, false, List}
use Rattle.std.proofs.Common.{[]}
use Rattle.std.proofs.Common.{◌∷◌, length, map, Option, Some, None, Result, Ok, Err}
use Rattle.std.proofs.Common.{sym, ap, subst, arith, refl}
use Rattle.std.specs.Prelude.{if◌then◌else◌, option_map, All, Any, AllPairs, Contains}
use Rattle.std.specs.Str.{bytes_eq}
use Rattle.std.proofs.lemmas.Bool.{cases_Bool, both_ways}
use Rattle.std.proofs.lemmas.List.{length-map}
use Rattle.std.proofs.lemmas.List.Elements.{All-cons, All-map, All-contains}
use Rattle.std.proofs.lemmas.List.Kept.{AllPairs-cons}
use Rattle.vab_disk.specs.Disk.{Image}
use Rattle.vab_names.specs.Names.{is_full, base_of, in_slot, store_of}
use Rattle.vab_names.proofs.NameCases.{eq_name}
use Rattle.vab_marks.specs.declared.mark.MarkPhase.{MarkPhase}
use Rattle.vab_marks.specs.declared.mark.MarkPhase.TheVariants as marks
use Rattle.vab_marks.specs.declared.status.PartStatus.{PartStatus}
use Rattle.vab_marks.specs.declared.version.MarkVersion.{MarkVersion}
use Rattle.vab_marks.specs.Version.{partitions_under}
use Rattle.vab_statuses.specs.Statuses.{statuses_under, written_in, IsFirstFree}
use Rattle.vab_statuses.proofs.StatusesLaws.{names_differ}
use Rattle.vab_tables.specs.declared.table.Table.{Table}
use Rattle.vab_blocks.proofs.Contained.{first, later}
use Rattle.vab_layout.specs.declared.layout.Part.{Part as PartOfLayout}
use Rattle.vab_layout.specs.declared.layout.Layout.{Layout}
use Rattle.vab_layout.specs.Layout.{layout_of}
use Rattle.vab_layout.specs.Slots.{other_slot, own_parts, twins_by, is_updated}
use Rattle.vab_layout.specs.Slots.{IsTargetPartBeside}
use Rattle.vab_space.specs.declared.Chunk.{Chunk}
use Rattle.vab_builder.proofs.Counting.{pairs_map}
use Rattle.vab_partitions.specs.Target.{FitsBeside}
use Rattle.vab_partitions.specs.TargetRules.{bad_beside}
use Rattle.vab_partitions.proofs.BadTarget.{no_bad_target}
use Rattle.vab_model.specs.declared.state.PlanEntry.{PlanEntry}
use Rattle.vab_model.specs.declared.state.Plan.{Plan}
use Rattle.vab_model.specs.declared.state.Phase.TheVariants.{Installing}
use Rattle.vab_model.specs.declared.command.Refusal.TheVariants as refusals
use Rattle.vab_model.specs.declared.command.Reply.TheVariants as replies
use Rattle.vab_model.specs.Commands.{Flash}
use Rattle.vab_model.specs.Effects.{Effect, refuses}
use Rattle.vab_model.specs.Plans.{entry_named}
use Rattle.vab_device.specs.declared.fault.StartFault.{StartFault}
use Rattle.vab_device.specs.declared.fault.StartFault.TheVariants.{BadMark}
use Rattle.vab_device.specs.declared.device.Device.{Device}
use Rattle.vab_device.specs.declared.device.Part.{Part}
use Rattle.vab_device.specs.declared.device.PartImage.{PartImage}
use Rattle.vab_device.specs.declared.device.PartImage.TheVariants.{Kept, Declared, Written}
use Rattle.vab_device.specs.Checks.{Check, first_fault, names_none}
use Rattle.vab_device.specs.Kept.{group_of, sectors_of}
use Rattle.vab_device.specs.Mounted.{Mounted, state_on, mounted_on, entry_on, entries_on}
use Rattle.vab_device.specs.Mounted.{phase_by, count_at, planned_on as image_planned}
use Rattle.vab_device.specs.Stores.{Scanned, first_named, wanted_of, scans_in, scanned_named}
use Rattle.vab_device.specs.Phases.{phase_in, twin_check, own_check, target_check, update_checks}
use Rattle.vab_device.specs.Phases.{no_store_check}
use Rattle.vab_device.specs.Phases.{planned_image, planned_on, plan_of}
use Rattle.vab_device.specs.Reading.{Read, kept, version_at, most_at, statuses_read, statuses_at}
use Rattle.vab_device.specs.Flashed.{flash_effect, entry_effect, placed_effect, unwritten_effect}
use Rattle.vab_device.specs.Flashed.{staged_effect, in_store, in_place, named_effect}
use Rattle.vab_device.specs.Updates.{effect_on}
use Rattle.vab_device.proofs.CheckLaws.{first_kept}
use Rattle.vab_device.proofs.NamedParts.{named_in}
use Rattle.vab_device.proofs.ReadingLaws.{device_was}
use Rattle.vab_device.proofs.FlashedLaws.{flash_by_blocks}
use Rattle.vab_marks.specs.declared.mark.UpdateMark.{UpdateMark}
use Rattle.vab_targets.specs.Statuses.{FlashFindsFree}
use Rattle.vab_flash.proofs.FewLaws.{IsNamed, named_in_list, few_names}
use Rattle.vab_targets.proofs.FirstFree.{NoneFree, free_or_none, first_free}
use Rattle.vab_targets.proofs.Filled.{few_under, differ_under, filled}
use Rattle.vab_targets.proofs.Scans.{scanned_first, read_name, wanted_found}

-- ---- what a flash that is done says of its partition

abbrev IsUnwritten : PartImage → Type 0
IsUnwritten Kept = Unit {0}
IsUnwritten Declared = Unit {0}
IsUnwritten (Written k es) = ⊥

-- it was not written, and has a store, or the target stands apart
record IsOpen (apart : Bool) (store : Option ℕ) (i : PartImage) : Type 0 where
  placed : (apart ≡ true) ⊎ ((blocks : ℕ) × (store ≡ Some blocks))
  unwritten : IsUnwritten i

unwritten_done : (image : Image) (p : Part) (i : PartImage) (next : Effect Mounted)
    → (unwritten_effect (image_planned image p i) next).reply ≡ replies.Done
    → IsUnwritten i
unwritten_done image p Kept next done = tt
unwritten_done image p Declared next done = tt
unwritten_done image p (Written k es) next done =
    absurd (let no : replies.Refused refusals.Written ≡ replies.Done = done in cc)

if_apart : (b : Bool) (x : Effect Mounted)
    → (if b then x else refuses refusals.NoStore).reply ≡ replies.Done
    → (b ≡ true) × (x.reply ≡ replies.Done)
if_apart true x done = (refl, done)
if_apart false x done =
    absurd (let no : replies.Refused refusals.NoStore ≡ replies.Done = done in cc)

-- the entry of a partition with this store and this image
abbrev entry_with : Image → Part → Option ℕ → PartImage → PlanEntry
entry_with image p store i = record {
  name = p.name;
  group = group_of p.group;
  blocks = length p.map;
  store = store;
  image = image_planned image p i;
}

done_open : (m : Mounted) (source : ℕ) (plan : Plan) (chunk : Chunk)
    (staged : Option (List ℕ)) (image : Image) (p : Part) (store : Option ℕ) (i : PartImage)
    → (placed_effect m source plan (entry_with image p store i) chunk staged store).reply
    ≡ replies.Done
    → IsOpen plan.apart store i
done_open m source plan chunk staged image p None i done =
    let e : PlanEntry = entry_with image p None i in
    let place : Effect Mounted = staged_effect e (in_place m source plan e) staged in
    let is = if_apart plan.apart (unwritten_effect e.image place) done in
    record { placed = inl is.0; unwritten = unwritten_done image p i place is.1 }
done_open m source plan chunk staged image p (Some n) i done =
    let e : PlanEntry = entry_with image p (Some n) i in
    let place : Effect Mounted = staged_effect e (in_store m source plan e n chunk) staged in
    record { placed = inr (n, refl); unwritten = unwritten_done image p i place done }

-- the partition of this layout has a store, or the target stands apart
abbrev IsPlaced : (apart : Bool) → Layout → PartOfLayout → Type 0
IsPlaced apart l p =
    (apart ≡ true)
    ⊎ ((store : PartOfLayout) × (first_named (store_of p.name) l.parts ≡ Some store))

-- the partition of a plan, where its image goes, and that nothing was written to it
record IsFlashed (apart : Bool) (l : Layout) (scanned : List Scanned) (ps : List PartOfLayout)
    : Type 0 where
  part : PartOfLayout
  has : Contains ps part
  placed : IsPlaced apart l part
  unwritten : IsUnwritten (planned_image (is_updated part) (scanned_named part.name scanned))

store_there : (f : PartOfLayout → List ℕ) (x : Option PartOfLayout) (n : ℕ)
    → option_map length (option_map f x) ≡ Some n
    → (q : PartOfLayout) × (x ≡ Some q)
store_there f None n h = absurd (let no : None ≡ Some n = h in cc)
store_there f (Some q) n h = (q, refl)

-- where a partition of this layout stands
abbrev place_in : Layout → PartOfLayout → List ℕ
place_in l q = sectors_of l.device.first_logical_sector q.blocks

placed_there : (apart : Bool) (l : Layout) (p : PartOfLayout)
    → (apart ≡ true)
    ⊎ ((n : ℕ)
    × (option_map length (option_map (place_in l) (first_named (store_of p.name) l.parts))
    ≡ Some n))
    → IsPlaced apart l p
placed_there apart l p (inl is) = inl is
placed_there apart l p (inr is) =
    inr (store_there (place_in l) (first_named (store_of p.name) l.parts) is.0 is.1)

done_flashed : (m : Mounted) (source : ℕ) (plan : Plan) (chunk : Chunk)
    (staged : Option (List ℕ)) (image : Image) (l : Layout) (scanned : List Scanned)
    (base : List ℕ) (ps : List PartOfLayout)
    → (entry_effect m source plan chunk staged
    (entry_named base (map (entry_on image) (map (planned_on l scanned) ps)))).reply
    ≡ replies.Done
    → IsFlashed plan.apart l scanned ps
done_flashed m source plan chunk staged image l scanned base [] done =
    absurd (let no : replies.Refused refusals.Unknown ≡ replies.Done = done in cc)
done_flashed m source plan chunk staged image l scanned base (p ∷ ps) done =
    elim (cases_Bool (bytes_eq (base_of p.name) base)) [
      | inl here ↦
          let x : Part = planned_on l scanned p in
          let open_now = done_open m source plan chunk staged image x (option_map length x.store)
          x.image (rw here at done) in
          record {
            part = p;
            has = first p ps;
            placed = placed_there plan.apart l p open_now.placed;
            unwritten = open_now.unwritten;
          }
      | inr other ↦
          let rest = done_flashed m source plan chunk staged image l scanned base ps
          (rw other at done) in
          record {
            part = rest.part;
            has = later p ps rest.part rest.has;
            placed = rest.placed;
            unwritten = rest.unwritten;
          }
    ]

-- ---- it is updated, so no status names it

updated : (apart : Bool) (slot : ℕ) (source : List PartOfLayout) (l : Layout)
    (p : PartOfLayout)
    → IsTargetPartBeside slot (twins_by apart source) source l.parts p
    → IsPlaced apart l p
    → is_updated p ≡ true
updated apart slot source l p is placed = elim is.kept [
  | inl marked ↦ marked
  | inr same ↦ absurd (elim placed [
    | inl is_apart ↦
        let there = subst
        (λ (b : Bool). Any (λ (s : PartOfLayout). s.name ≡ in_slot (other_slot slot) p.name)
        (twins_by b source))
        is_apart same.0 in
        omega (arith, there.2)
    | inr store ↦
        let named = named_in (store_of p.name) l.parts store.0 store.1 in
        All-contains (λ (s : PartOfLayout). s.name ≢ store_of p.name) l.parts store.0 same.2
        named.0 named.1
  ])
]

not_read : (b : Bool) (x : Option Scanned)
    → b ≡ true
    → IsUnwritten (planned_image b x)
    → x ≡ None
not_read true None marked open_now = refl
not_read true (Some s) marked open_now = absurd open_now
not_read false x marked open_now = absurd cc

-- ---- the statuses name other partitions

-- it names one of these partitions, and not that of this name
record IsOther (ps : List PartOfLayout) (name : List ℕ) (s : PartStatus) : Type 0 where
  named : IsNamed ps s.name
  other : name ≢ s.name

test_none : (b : Bool) (x : Scanned) (o : Option Scanned)
    → (if b then Some x else o) ≡ None
    → (b ≡ false) × (o ≡ None)
test_none true x o h = absurd (let no : Some x ≡ None = h in cc)
test_none false x o h = (refl, h)

each_other : (in_place : Bool) (slot : ℕ) (l : Layout) (name : List ℕ) (ss : List PartStatus)
    (image : Image) (scanned : List Scanned)
    → scans_in (map (wanted_of in_place slot l) ss) image ≡ Ok scanned
    → scanned_named name scanned ≡ None
    → All (IsOther (own_parts slot l.parts) name) ss
each_other b slot l name [] image scanned read none = λ k d lt. absurd (omega (arith, lt))
each_other b slot l name (s ∷ ss) image scanned read none =
    let own : List PartOfLayout = own_parts slot l.parts in
    let one = scanned_first (wanted_of b slot l s) (map (wanted_of b slot l) ss) image scanned read
    in
    let wanted = wanted_found b l.device.first_logical_sector s.name s.image
    (first_named s.name own) (first_named (store_of s.name) l.parts) one.wanted one.is in
    let is : s.name ≡ one.scan.name = wanted.name ∙ read_name one.wanted image one.scan one.read in
    let not_here = test_none (bytes_eq one.scan.name name) one.scan (scanned_named name one.rest)
    (subst (λ (ys : List Scanned). scanned_named name ys ≡ None) (sym one.whole) none) in
    let found = named_in s.name own wanted.part wanted.found in
    All-cons (IsOther own name) s ss
    (record {
      named = subst (IsNamed own) found.1 (named_in_list own wanted.part found.0);
      other = λ same.
          both_ways (bytes_eq one.scan.name name) not_here.0
          (eq_name one.scan.name name (sym is ∙ sym same));
    })
    (each_other b slot l name ss image one.rest one.behind not_here.1)

-- ---- one of the sectors is free

-- statuses in all sectors would be of more partitions than a target has
too_many : (v : MarkVersion) (apart : Bool) (slot : ℕ) (source : List PartOfLayout)
    (l : Layout) (statuses : List (Option PartStatus)) (scanned : List Scanned) (image : Image)
    → FitsBeside (partitions_under v) slot (twins_by apart source) source l.parts
    → statuses_under v image ≡ Ok statuses
    → scans_in (map (wanted_of apart slot l) (written_in statuses)) image ≡ Ok scanned
    → IsFlashed apart l scanned (own_parts slot l.parts)
    → NoneFree image (partitions_under v)
    → ⊥
too_many v apart slot source l statuses scanned image target read scans f none =
    let own : List PartOfLayout = own_parts slot l.parts in
    let p : PartOfLayout = f.part in
    let ss : List PartStatus = written_in statuses in
    let marked = updated apart slot source l p
    (All-contains (IsTargetPartBeside slot (twins_by apart source) source l.parts) own p
    target.is.each f.has)
    f.placed in
    let unread = not_read (is_updated p) (scanned_named p.name scanned) marked f.unwritten in
    let others = each_other apart slot l p.name ss image scanned scans unread in
    let names : List (List ℕ) = map (λ (s : PartStatus). s.name) ss in
    let named : All (IsNamed own) (p.name ∷ names) =
    All-cons (IsNamed own) p.name names (named_in_list own p f.has)
    (All-map (IsNamed own) (λ (s : PartStatus). s.name) ss (λ k d lt. (others k d lt).named)) in
    let apart : AllPairs (λ a b. a ≢ b) (p.name ∷ names) =
    AllPairs-cons (λ a b. a ≢ b) p.name names
    (All-map (λ (name : List ℕ). p.name ≢ name) (λ (s : PartStatus). s.name) ss
    (λ k d lt. (others k d lt).other))
    (pairs_map (λ a b. a ≢ b) (λ (s : PartStatus). s.name) ss
    (names_differ statuses (differ_under v image statuses read))) in
    omega (
      arith,
      few_names own (p.name ∷ names) named apart,
      length-map ss (λ (s : PartStatus). s.name),
      filled v image statuses read none,
      target.few,
    )

none_named : (x : Option (List ℕ)) → names_none x ≡ None → x ≡ None
none_named None h = refl
none_named (Some name) h = absurd cc

target_of : (apart : Bool) (most slot : ℕ) (s t : Table)
    → most ≤ 64
    → first_fault (update_checks apart most slot s t) ≡ None
    → FitsBeside most (other_slot slot) (twins_by apart (layout_of s).parts) (layout_of s).parts
    (layout_of t).parts
target_of apart most slot s t small none =
    let k : ℕ = other_slot slot in
    let twins : List PartOfLayout = twins_by apart (layout_of s).parts in
    let stores : List Check = no_store_check apart t ∷ [] in
    let beside : Check = target_check apart most k s t in
    let twin = first_kept (twin_check k s t) (own_check most slot s ∷ beside ∷ stores) none in
    let own = first_kept (own_check most slot s) (beside ∷ stores) twin.1 in
    let target = first_kept beside stores own.1 in
    no_bad_target most k twins (layout_of s).parts (layout_of t).parts small
    (none_named (bad_beside most k twins (layout_of s).parts (layout_of t).parts) target.0)

statuses_were : (image : Image) (l : List (Option PartStatus))
    → statuses_at true image ≡ Ok l
    → statuses_under (version_at image) image ≡ Ok l
unfolding statuses_at
statuses_were image l h = by_result (statuses_under (version_at image) image) l h
  where
    by_result : (x : Result (List (Option PartStatus)) ℕ) (l : List (Option PartStatus))
        → statuses_read x ≡ Ok l
        → x ≡ Ok l
    by_result (Ok y) l h = let same : y ≡ l = cc in ap Ok same
    by_result (Err at) l h =
        absurd
        (let no : (let r : Result (List (Option PartStatus)) StartFault = Err (BadMark at) in r
        ≡ Ok l) = h in cc)

if_full : (b : Bool) (x : Effect Mounted)
    → (if b then x else refuses refusals.BadName).reply ≡ replies.Done
    → x.reply ≡ replies.Done
if_full true x done = done
if_full false x done =
    absurd (let no : replies.Refused refusals.BadName ≡ replies.Done = done in cc)

refused : replies.Refused refusals.NotInstalling ≡ replies.Done → ⊥
refused done = cc

-- without physical partitions, of one of the plan
named_bare : (m : Mounted) (source : ℕ) (plan : Plan) (k : Chunk) (staged : Option (List ℕ))
    (base : List ℕ)
    → m.state.physical ≡ []
    → named_effect m source plan k staged base
    ≡ entry_effect m source plan k staged (entry_named base plan.entries)
named_bare m source plan k staged base bare = rw bare refl

module _ (mark : UpdateMark) (statuses : List (Option PartStatus)) (scanned : List Scanned)
    (image : Image) (m : Mounted) (staged : Option (List ℕ)) (name : List ℕ) (chunk : Chunk)
    (bare : m.state.physical ≡ [])
  where
    -- the plan of a target's layout
    abbrev plan_in : Layout → Plan
    plan_in l = record {
      apart = mark.apart;
      entries = map (entry_on image) (plan_of (other_slot mark.slot) l scanned);
    }

    -- while an update is installed, with the tables of source and target
    installing_finds : (s t : Table)
        → first_fault (update_checks mark.apart (most_at image) mark.slot s t) ≡ None
        → statuses_at true image ≡ Ok statuses
        → scans_in
        (map (wanted_of mark.apart (other_slot mark.slot) (layout_of t)) (written_in statuses))
        image
        ≡ Ok scanned
        → (flash_effect m staged name chunk (Installing mark.slot (plan_in (layout_of t)))).reply
        ≡ replies.Done
        → (at : ℕ) × IsFirstFree image (Some at)
    installing_finds s t none read scans done =
        let v : MarkVersion = version_at image in
        let slot : ℕ = mark.slot in
        let k : ℕ = other_slot slot in
        let l : Layout = layout_of t in
        let own : List PartOfLayout = own_parts k l.parts in
        let plan : Plan = plan_in l in
        let entry = named_effect m slot plan chunk staged (base_of name) in
        let f = done_flashed m slot plan chunk staged image l scanned (base_of name) own
        (subst (λ (e : Effect Mounted). e.reply ≡ replies.Done)
        (named_bare m slot plan chunk staged (base_of name) bare)
        (if_full (is_full k name) entry done)) in
        elim (free_or_none image (partitions_under v)) [
          | inl free ↦
              (2049 + free.place, first_free image (partitions_under v) free (few_under v))
          | inr no_free ↦
              absurd
              (too_many v mark.apart k (layout_of s).parts l statuses scanned image
              (target_of mark.apart (partitions_under v) slot s t (few_under v) none)
              (statuses_were image statuses read) scans f no_free)
        ]

    -- in each other phase a flash is refused
    by_phase : (phase : MarkPhase) (ts : List Table) (left : ℕ)
        → first_fault ((phase_in phase mark).part_checks (most_at image) ts) ≡ None
        → statuses_at (phase_in phase mark).reads_statuses image ≡ Ok statuses
        → scans_in ((phase_in phase mark).stores ts (written_in statuses)) image ≡ Ok scanned
        → (flash_effect m staged name chunk
        (phase_by (record mark { phase = phase }) left
        (entries_on image ((phase_in phase mark).plan ts scanned)))).reply
        ≡ replies.Done
        → (at : ℕ) × IsFirstFree image (Some at)
    by_phase marks.Idle ts left none read scans done = absurd (refused done)
    by_phase marks.Installing [] left none read scans done = absurd (refused done)
    by_phase marks.Installing (s ∷ []) left none read scans done = absurd (refused done)
    by_phase marks.Installing (s ∷ t ∷ ts) left none read scans done =
        installing_finds s t none read scans done
    by_phase marks.Staged ts left none read scans done = absurd (refused done)
    by_phase marks.Merging ts left none read scans done = absurd (refused done)
    by_phase marks.Completed ts left none read scans done = absurd (refused done)

pub flash_finds_free : FlashFindsFree
unfolding state_on
flash_finds_free size image m staged name chunk is done =
    let was = device_was size image m is in
    let r : Read = was.read in
    let d : Device = kept r in
    let now : Mounted = mounted_on d image in
    let there : (flash_effect now staged name chunk now.state.phase).reply ≡ replies.Done =
    subst (λ (e : Effect Mounted). e.reply ≡ replies.Done) (flash_by_blocks now staged name chunk)
    (subst (λ (x : Mounted). (effect_on x staged (Flash name chunk)).reply ≡ replies.Done) was.is
    done) in
    by_phase r.mark r.statuses r.scanned image (mounted_on d image) staged name chunk refl
    r.mark.phase r.tables (count_at d.a + count_at d.b) was.reads.parts was.reads.statuses
    was.reads.stores there
