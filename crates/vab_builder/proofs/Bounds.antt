-- How large the numbers of an update's target are.
use Rattle.std.proofs.Common.{◌≡◌, ℕ, ◌+◌, ◌^◌, ◌<◌, ◌≤◌, Bool, true, false, cond, List, [], ◌∷◌}
use Rattle.std.proofs.Common.{◌++◌, length, map, sum, ap, ◌∙◌, inl, inr, arith, length-append}
use Rattle.std.specs.Prelude.{All, Contains}
use Rattle.std.specs.Str.{bytes_eq}
use Rattle.std.specs.List.{filter}
use Rattle.std.proofs.lemmas.List.Elements.{All-filter, All-map, All-contains, All-append, All-cons}
use Rattle.std.proofs.lemmas.List.Elements.{All-nil, All-weaker}
use Rattle.std.proofs.lemmas.List.{length-map}
use Rattle.std.proofs.lemmas.List.Sums.{sum-map, sum_by-le, length-filter, count_by-le-length}
use Rattle.vab_names.specs.Names.{in_slot, is_of_slot, is_store, store_of, most_partitions}
use Rattle.vab_space.specs.declared.Want.{Want}
use Rattle.vab_space.specs.Space.{used_of, growth_of}
use Rattle.vab_tables.specs.Rules.{cap_of, IsDevice}
use Rattle.vab_tables.specs.declared.entries.BlockDevice.{BlockDevice}
use Rattle.vab_layout.specs.declared.layout.Part.{Part}
use Rattle.vab_layout.specs.declared.layout.Layout.{Layout}
use Rattle.vab_layout.specs.Rules.{IsPart}
use Rattle.vab_layout.specs.Slots.{other_slot, own_parts, store_parts, before_of, blocks_named}
use Rattle.vab_layout.specs.Slots.{IsDistinct, IsOwn, IsOwnPart}
use Rattle.vab_builder.specs.Sizes.{source_sizes, want_of, wants_of, wants_resized}
use Rattle.vab_builder.specs.Sizes.{wants_stored, used_by, sizes_in}
use Rattle.vab_builder.proofs.Counting.{few_below, pieces_once}
use Rattle.vab_blocks.proofs.Contained.{all_from, of_filter, in_filter}
use Rattle.std.proofs.lemmas.List.Elements.{Contains-append_right}
use Rattle.vab_names.proofs.NameCases.{in_slot_is, store_is_store}
use Rattle.vab_builder.proofs.OwnLaws.{own_rules}
use Rattle.vab_builder.proofs.PartLaws.{named_cases}
use Rattle.vab_builder.specs.Update.{IsUpdateBeside}
use Rattle.vab_builder.proofs.TwinLaws.{twins_own}

pub few_kept : (p : Part → Bool) (parts : List Part) → length (filter p parts) ≤ length parts
few_kept p parts = omega (arith, length-filter p parts, count_by-le-length p parts)

pub sum_small : (f : Part → ℕ) (parts : List Part) → All (λ p. f p ≤ 2 ^ 28) parts
    → length parts ≤ most_partitions → sum (map f parts) ≤ 2 ^ 34
sum_small f parts small few = omega (arith, sum-map f parts, sum_by-le f (2 ^ 28) parts small, few)

pub own_small : (slot : ℕ) (parts : List Part) → IsOwn slot parts
    → sum (map (λ p. length p.blocks) (own_parts slot parts)) ≤ 2 ^ 34
own_small slot parts own =
    sum_small (λ p. length p.blocks) (own_parts slot parts)
    (All-weaker (IsOwnPart slot) (λ p. length p.blocks ≤ 2 ^ 28) (λ p h. h.size)
    (own_parts slot parts) own.each) own.few

pub either_small : (b : Bool) (m n k : ℕ) → m ≤ k → n ≤ k → cond b m n ≤ k
either_small true m n k hm hn = hm
either_small false m n k hm hn = hn

pub group_small : (slot : ℕ) (parts : List Part) (group name : List ℕ) (n : ℕ) → IsOwn slot parts
    → n ≤ 2 ^ 28 → sum (sizes_in group name n (own_parts slot parts)) ≤ 2 ^ 34
group_small slot parts group name n own small =
    let f : Part → ℕ = λ p. cond (bytes_eq p.name name) n (length p.blocks) in
    let inside : List Part = filter (λ p. bytes_eq p.group group) (own_parts slot parts) in
    let each : All (λ p. f p ≤ 2 ^ 28) inside =
    All-filter (λ p. bytes_eq p.group group) (λ p. f p ≤ 2 ^ 28) (own_parts slot parts)
    (All-weaker (IsOwnPart slot) (λ p. f p ≤ 2 ^ 28)
    (λ p h. either_small (bytes_eq p.name name) n (length p.blocks) (2 ^ 28) small h.size)
    (own_parts slot parts) own.each) in
    sum_small f inside each
    (omega (arith, few_kept (λ p. bytes_eq p.group group) (own_parts slot parts), own.few))

own_named : (slot : ℕ) (name : List ℕ) (parts : List Part)
    → IsOwn slot parts
    → is_of_slot slot name ≡ true
    → length (blocks_named name parts) ≤ 2 ^ 28
own_named slot name parts own of = elim (named_cases name parts) [
  | inl none ↦ omega (arith, ap length none)
  | inr r ↦
      let is = own_rules slot parts r.0 own r.1 (ap (is_of_slot slot) r.2 ∙ of) in
      omega (arith, ap length r.3, is.size)
]

-- ---- what is in use

pub cap_small : (d : BlockDevice) → IsDevice d → cap_of d ≤ 2 ^ 52
cap_small d device = omega (arith, device.fits.size)

pub store_small : (slot : ℕ) (twins : List Part) (source target : Layout) (name : List ℕ)
    → IsUpdateBeside slot twins source target
    → is_of_slot slot name ≡ true → length (blocks_named (store_of name) target.parts) ≤ 2 ^ 52
store_small slot twins source target name update of =
    elim (named_cases (store_of name) target.parts) [
      | inl none ↦ omega (arith, ap length none)
      | inr r ↦
          let p : Part = r.0 in
          let store : Contains (store_parts slot target.parts) p =
          in_filter (λ q. is_store slot q.name) target.parts p r.1 (ap (is_store slot) r.2
          ∙ store_is_store slot name of) in
          let listed =
          Contains-append_right (own_parts slot target.parts) (store_parts slot target.parts) p
          store in
          let once =
          All-contains (λ q. IsDistinct q.blocks)
          (own_parts slot target.parts ++ store_parts slot target.parts) p
          (pieces_once (λ q. q.blocks)
          (own_parts slot target.parts ++ store_parts slot target.parts) update.parts.once) listed
          in
          let below =
          (All-contains (IsPart (cap_of target.device) target.groups) target.parts p
          update.target_rules.parts r.1).blocks in
          let few = few_below (cap_of target.device) p.blocks once below in
          omega (arith, few, cap_small target.device update.target_rules.device, ap length r.3)
    ]

pub used_small : (sizes : List ℕ) (wants : List Want)
    → sum sizes ≤ 2 ^ 34
    → length wants ≤ most_partitions + 1
    → All (λ w. w.blocks ≤ 2 ^ 28) wants → All (λ w. w.store ≤ 2 ^ 52) wants
    → used_of sizes wants < 2 ^ 63
used_small sizes wants small few blocks stores =
    let growth : All (λ w. growth_of w ≤ 2 ^ 28) wants =
    All-weaker (λ w. w.blocks ≤ 2 ^ 28) (λ w. growth_of w ≤ 2 ^ 28) (λ w h. omega (arith, h))
    wants blocks in
    omega (
      arith,
      small,
      few,
      sum_by-le growth_of (2 ^ 28) wants growth,
      sum_by-le (λ w. w.store)
          (2 ^ 52) wants stores,
    )

pub wanted_small : (slot : ℕ) (twins : List Part) (source target : Layout) (p : Part)
    → IsUpdateBeside slot twins source target
    → Contains (own_parts slot target.parts) p
    → (length p.blocks ≤ 2 ^ 28) × (length (blocks_named (store_of p.name) target.parts) ≤ 2 ^ 52)
wanted_small slot twins source target p update c = (
  (All-contains (IsOwnPart slot) (own_parts slot target.parts) p update.parts.own.each c).size,
  store_small slot twins source target p.name update
      (of_filter (λ q. is_of_slot slot q.name) target.parts p c).1,
)

pub created_bound : (slot : ℕ) (twins : List Part) (source target : Layout) (before n : ℕ)
    → IsUpdateBeside slot twins source target
    → n ≤ 2 ^ 28
    → used_by slot source.parts
    (wants_of slot twins target.parts
    ++ record { before = before; blocks = n; store = 0 } ∷ []) < 2 ^ 63
created_bound slot twins source target before n update small =
    let own : List Part = own_parts slot target.parts in
    let w : Part → Want = want_of slot twins target.parts in
    let new : Want = record { before = before; blocks = n; store = 0 } in
    let blocks : All (λ v. v.blocks ≤ 2 ^ 28) (map w own) =
    All-map (λ v. v.blocks ≤ 2 ^ 28) w own
    (all_from (λ p. (w p).blocks ≤ 2 ^ 28) own
    (λ p c. (wanted_small slot twins source target p update c).0)) in
    let stores : All (λ v. v.store ≤ 2 ^ 52) (map w own) =
    All-map (λ v. v.store ≤ 2 ^ 52) w own
    (all_from (λ p. (w p).store ≤ 2 ^ 52) own
    (λ p c. (wanted_small slot twins source target p update c).1)) in
    used_small (source_sizes slot source.parts) (map w own ++ new ∷ [])
    (own_small (other_slot slot) source.parts update.own)
    (omega (arith, length-append (map w own) (new ∷ []), length-map own w, update.parts.own.few))
    (All-append (λ v. v.blocks ≤ 2 ^ 28) (map w own) (new ∷ []) blocks
    (All-cons (λ v. v.blocks ≤ 2 ^ 28) new [] small (All-nil (λ v. v.blocks ≤ 2 ^ 28))))
    (All-append (λ v. v.store ≤ 2 ^ 52) (map w own) (new ∷ []) stores
    (All-cons (λ v. v.store ≤ 2 ^ 52) new [] (omega arith) (All-nil (λ v. v.store ≤ 2 ^ 52))))

-- the wants of the target's own partitions, each of small numbers
mapped_bound : (slot : ℕ) (twins : List Part) (source target : Layout) (w : Part → Want)
    → IsUpdateBeside slot twins source target
    → ((p : Part) → Contains (own_parts slot target.parts) p
    → ((w p).blocks ≤ 2 ^ 28) × ((w p).store ≤ 2 ^ 52))
    → used_by slot source.parts (map w (own_parts slot target.parts)) < 2 ^ 63
mapped_bound slot twins source target w update small =
    let own : List Part = own_parts slot target.parts in
    used_small (source_sizes slot source.parts) (map w own)
    (own_small (other_slot slot) source.parts update.own)
    (omega (arith, length-map own w, update.parts.own.few))
    (All-map (λ v. v.blocks ≤ 2 ^ 28) w own
    (all_from (λ p. (w p).blocks ≤ 2 ^ 28) own (λ p c. (small p c).0)))
    (All-map (λ v. v.store ≤ 2 ^ 52) w own
    (all_from (λ p. (w p).store ≤ 2 ^ 52) own (λ p c. (small p c).1)))

resized_small : (b : Bool) (w : Want) (n : ℕ) → n ≤ 2 ^ 28
    → (w.blocks ≤ 2 ^ 28) × (w.store ≤ 2 ^ 52)
    → ((cond b (record w { blocks = n }) w).blocks ≤ 2 ^ 28)
    × ((cond b (record w { blocks = n }) w).store ≤ 2 ^ 52)
resized_small true w n small h = (small, h.1)
resized_small false w n small h = h

stored_small : (b : Bool) (w : Want) (n : ℕ) → n ≤ 2 ^ 29 → (w.blocks ≤ 2 ^ 28) × (w.store ≤ 2 ^ 52)
    → ((cond b (record w { store = n }) w).blocks ≤ 2 ^ 28)
    × ((cond b (record w { store = n }) w).store ≤ 2 ^ 52)
stored_small true w n small h = (h.0, omega (arith, small))
stored_small false w n small h = h

pub resized_bound : (slot : ℕ) (twins : List Part) (source target : Layout) (name : List ℕ) (n : ℕ)
    → IsUpdateBeside slot twins source target → n ≤ 2 ^ 28
    → used_by slot source.parts (wants_resized slot twins target.parts name n) < 2 ^ 63
resized_bound slot twins source target name n update small =
    let w : Part → Want = want_of slot twins target.parts in
    mapped_bound slot twins source target
    (λ p. cond (bytes_eq p.name name) (record (w p) { blocks = n }) (w p)) update
    (λ p c. resized_small (bytes_eq p.name name) (w p) n small
    (wanted_small slot twins source target p update c))

pub stored_bound : (slot : ℕ) (twins : List Part) (source target : Layout) (name : List ℕ) (n : ℕ)
    → IsUpdateBeside slot twins source target → n ≤ 2 ^ 29
    → used_by slot source.parts (wants_stored slot twins target.parts name n) < 2 ^ 63
stored_bound slot twins source target name n update small =
    let w : Part → Want = want_of slot twins target.parts in
    mapped_bound slot twins source target
    (λ p. cond (bytes_eq p.name name) (record (w p) { store = n }) (w p)) update
    (λ p c. stored_small (bytes_eq p.name name) (w p) n small
    (wanted_small slot twins source target p update c))

-- ---- numbers of 64 bits

pub before_small : (slot : ℕ) (twins : List Part) (source target : Layout) (name : List ℕ)
    → IsUpdateBeside slot twins source target
    → length (before_of slot twins name) < 2 ^ 64
before_small slot twins source target name update =
    let other : ℕ = other_slot slot in
    let of = in_slot_is other name in
    let own = twins_own other twins source.parts update.twins_are update.own in
    omega (arith, own_named other (in_slot other name) twins own of)
