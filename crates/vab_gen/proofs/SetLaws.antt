-- The sets that are made are sets that can be written.
use Rattle.std.proofs.Common.{◌≡◌, ◌≢◌, ◌∙◌, ℕ, zero, suc, ◌+◌, ◌-◌, ◌*◌, ◌/◌, ◌<◌, ◌≤◌, ◌^◌}
use Rattle.std.proofs.Common.{Bool, ◌&&◌, ltb, List, [], ◌∷◌, ◌++◌, length, get_or, take}
use Rattle.std.proofs.Common.{drop, replicate, map, codes, refl, sym, ap, subst, inl, inr, arith}
use Rattle.std.proofs.Common.{length-append}
use Rattle.std.specs.Prelude.{All, AllPairs, IsTrue}
use Rattle.std.specs.Int.{w64, to_le_bytes}
use Rattle.std.proofs.Math.Nat.{mod-lt}
use Rattle.std.proofs.Math.Seq.{get_or-append_right}
use Rattle.std.proofs.lemmas.Bool.{cases_Bool, cases_lt}
use Rattle.std.proofs.lemmas.List.{get_or_append_left, get_or-replicate, get_or_past, get_or-map}
use Rattle.std.proofs.lemmas.List.{length-take, length-map, length-replicate}
use Rattle.std.proofs.lemmas.List.Elements.{All-nil, All-cons, All-head, All-tail}
use Rattle.vab_bytes.specs.Number.{IsBytes}
use Rattle.vab_bytes.proofs.NumberLaws.{IsBytes-field}
use Rattle.vab_bytes.specs.Name.{is_name}
use Rattle.vab_names.specs.Names.{is_base}
use Rattle.vab_space.specs.Space.{blocks_of}
use Rattle.vab_set.specs.declared.set.SetImage.{SetImage}
use Rattle.vab_set.specs.Spelling.{IsImage, IsSet}
use Rattle.vab_gen.specs.Draws.{draw, drawn}
use Rattle.vab_gen.specs.Blocks.{joined, copies, filled, block_of, next_block}
use Rattle.vab_gen.specs.Images.{picked, fresh_blocks, fresh_image, fresh_end}
use Rattle.vab_gen.specs.Images.{next_blocks, next_image, next_end}
use Rattle.vab_gen.specs.Sets.{base_names, fresh_images, fresh_set, next_set, HasRoom}
use Rattle.vab_gen.proofs.BlockLaws.{joined_none, joined_more}

-- ---- bytes

IsBytes-append : (xs ys : List ℕ) → IsBytes xs → IsBytes ys → IsBytes (xs ++ ys)
IsBytes-append xs ys hx hy i = elim (cases_lt i (length xs)) [
  | inl lt ↦ rw (get_or_append_left xs ys 0 i lt) (hx i)
  | inr le ↦ rw (get_or-append_right xs ys i 0 le) (hy (i - length xs))
]

IsBytes-replicate : (n : ℕ) → IsBytes (replicate n 0)
IsBytes-replicate n i = elim (cases_lt i n) [
  | inl lt ↦ rw (get_or-replicate {A = ℕ} n i 0 0 lt) (omega arith)
  | inr le ↦ rw
      (get_or_past {X = ℕ} (replicate n 0) i 0 (omega (arith, length-replicate {A = ℕ} n 0)))
      (omega arith)
]

IsBytes-joined : (f : ℕ → List ℕ) → ((k : ℕ) → IsBytes (f k)) → (n : ℕ) → IsBytes (joined f n)
IsBytes-joined f each zero = subst IsBytes (sym (joined_none f)) (λ i. omega arith)
IsBytes-joined f each (suc n) =
    let more : joined f (suc n) ≡ joined f n ++ f n =
    (let e : suc n ≡ n + 1 = omega arith in ap (joined f) e ∙ joined_more f n) in
    subst IsBytes (sym more) (IsBytes-append (joined f n) (f n) (IsBytes-joined f each n) (each n))

length-joined : (m : ℕ) (f : ℕ → List ℕ)
    → ((k : ℕ) → length (f k) ≡ m)
    → (n : ℕ)
    → length (joined f n) ≡ m * n
length-joined m f each zero = ap length (joined_none f) ∙ (omega arith)
length-joined m f each (suc n) =
    let more : joined f (suc n) ≡ joined f n ++ f n =
    (let e : suc n ≡ n + 1 = omega arith in ap (joined f) e ∙ joined_more f n) in
    let step : m * n + m ≡ m * suc n = omega arith in
    ap length more
    ∙ length-append (joined f n) (f n)
    ∙ (λ i. length-joined m f each n i + each n i)
    ∙ step

number_bytes : (n : ℕ) → IsBytes (to_le_bytes w64 n)
number_bytes n zero = mod-lt _ (omega arith)
number_bytes n (suc zero) = mod-lt _ (omega arith)
number_bytes n (suc (suc zero)) = mod-lt _ (omega arith)
number_bytes n (suc (suc (suc zero))) = mod-lt _ (omega arith)
number_bytes n (suc (suc (suc (suc zero)))) = mod-lt _ (omega arith)
number_bytes n (suc (suc (suc (suc (suc zero))))) = mod-lt _ (omega arith)
number_bytes n (suc (suc (suc (suc (suc (suc zero)))))) = mod-lt _ (omega arith)
number_bytes n (suc (suc (suc (suc (suc (suc (suc zero))))))) = mod-lt _ (omega arith)
number_bytes n (suc (suc (suc (suc (suc (suc (suc (suc i)))))))) = omega arith

filled_bytes : (number : ℕ) → IsBytes (filled number)
unfolding filled copies
filled_bytes number = IsBytes-joined (λ k. to_le_bytes w64 number) (λ k. number_bytes number) 512

length-filled : (number : ℕ) → length (filled number) ≡ 4096
unfolding filled copies
length-filled number = length-joined 8 (λ k. to_le_bytes w64 number) (λ k. refl) 512

block_bytes : (bytes : List ℕ) (k : ℕ) → IsBytes bytes → IsBytes (block_of bytes k)
block_bytes bytes k is =
    let here : List ℕ = take 4096 (drop (4096 * k) bytes) in
    IsBytes-append here (replicate (4096 - length here) 0) (IsBytes-field bytes (4096 * k) 4096 is)
    (IsBytes-replicate (4096 - length here))

length-block_of : (bytes : List ℕ) (k : ℕ) → length (block_of bytes k) ≡ 4096
length-block_of bytes k =
    let here : List ℕ = take 4096 (drop (4096 * k) bytes) in
    let zeros : ℕ = 4096 - length here in
    omega (
      arith,
      length-append here (replicate zeros 0),
      length-replicate {A = ℕ} zeros 0,
      length-take 4096 (drop (4096 * k) bytes),
    )

-- whether the old image's block is kept
abbrev kept : SetImage → ℕ → ℕ → Bool
kept old k number = ltb number (2 ^ 63) && ltb k (blocks_of old.size)

next_bytes : (old : SetImage) (k number : ℕ) → IsBytes old.bytes → IsBytes (next_block old k number)
unfolding next_block
next_bytes old k number is = elim (cases_Bool (kept old k number)) [
  | inl stays ↦ rw stays (block_bytes old.bytes k is)
  | inr goes ↦ rw goes (filled_bytes number)
]

length-next_block : (old : SetImage) (k number : ℕ) → length (next_block old k number) ≡ 4096
unfolding next_block
length-next_block old k number = elim (cases_Bool (kept old k number)) [
  | inl stays ↦ rw stays (length-block_of old.bytes k)
  | inr goes ↦ rw goes (length-filled number)
]

-- ---- images

picked_below : (below number : ℕ) → 0 < below → picked below number < below
picked_below below number some = mod-lt (number / 2 ^ 33) some

-- so many blocks in all are no more than a set's image may have
few : (scale p n : ℕ) → scale ≤ 64 → p ≤ n → scale * p ≤ 64 * n
few scale p n low le = grind arith

fresh_fits : (scale seed : ℕ) (name : List ℕ)
    → scale ≤ 64
    → IsTrue (is_base name)
    → IsImage (fresh_image scale seed name)
unfolding fresh_image
fresh_fits scale seed name low base =
    let first : ℕ = draw seed in
    let blocks : ℕ = fresh_blocks scale first in
    let f : ℕ → List ℕ = λ k. filled (drawn (k + 1) first) in
    let below : picked 16 first < 16 = picked_below 16 first (omega arith) in
    let most : blocks ≤ 64 * 19 = few scale (4 + picked 16 first) 19 low (omega (arith, below)) in
    record {
      name = base;
      size = omega (arith, most);
      store = omega arith;
      bytes = IsBytes-joined f (λ k. filled_bytes (drawn (k + 1) first)) blocks;
      short =
          omega (arith, length-joined 4096 f (λ k. length-filled (drawn (k + 1) first)) blocks);
    }

fresh_small : (scale seed : ℕ) (name : List ℕ)
    → scale ≤ 64
    → (fresh_image scale seed name).size ≤ 2 ^ 39
unfolding fresh_image
fresh_small scale seed name low =
    let below : picked 16 (draw seed) < 16 = picked_below 16 (draw seed) (omega arith) in
    let most : fresh_blocks scale (draw seed) ≤ 64 * 19 =
    few scale (4 + picked 16 (draw seed)) 19 low (omega (arith, below)) in
    omega (arith, most)

fresh_name : (scale seed : ℕ) (name : List ℕ) → (fresh_image scale seed name).name ≡ name
unfolding fresh_image
fresh_name scale seed name = refl

next_fits : (scale seed : ℕ) (old : SetImage)
    → scale ≤ 64
    → old.size ≤ 2 ^ 39
    → IsImage old
    → IsImage (next_image scale seed old)
unfolding next_image
next_fits scale seed old low room is =
    let first : ℕ = draw seed in
    let blocks : ℕ = next_blocks scale first old in
    let f : ℕ → List ℕ = λ k. next_block old k (drawn (k + 1) first) in
    let below : picked 4 first < 4 = picked_below 4 first (omega arith) in
    let most : scale * picked 4 first ≤ 64 * 3 =
    few scale (picked 4 first) 3 low (omega (arith, below)) in
    record {
      name = is.name;
      size = omega (arith, most, room);
      store = omega arith;
      bytes = IsBytes-joined f (λ k. next_bytes old k (drawn (k + 1) first) is.bytes) blocks;
      short =
          omega (
            arith,
            length-joined 4096 f (λ k. length-next_block old k (drawn (k + 1) first))
                blocks,
          );
    }

next_name : (scale seed : ℕ) (old : SetImage) → (next_image scale seed old).name ≡ old.name
unfolding next_image
next_name scale seed old = refl

-- ---- sets

abbrev name_of : SetImage → List ℕ
name_of image = image.name

fresh_names : (scale seed : ℕ) (names : List (List ℕ))
    → map name_of (fresh_images scale seed names) ≡ names
unfolding fresh_images
fresh_names scale seed [] = refl
fresh_names scale seed (name ∷ names) =
    (λ i. fresh_name scale seed name i ∷ fresh_names scale (fresh_end scale seed) names i)

fresh_each : (scale seed : ℕ) (names : List (List ℕ))
    → scale ≤ 64
    → All (λ name. IsTrue (is_base name)) names
    → All IsImage (fresh_images scale seed names)
unfolding fresh_images
fresh_each scale seed [] low base = All-nil IsImage
fresh_each scale seed (name ∷ names) low base =
    let P : List ℕ → Type 0 = λ name. IsTrue (is_base name) in
    All-cons IsImage (fresh_image scale seed name)
    (fresh_images scale (fresh_end scale seed) names)
    (fresh_fits scale seed name low (All-head P name names base))
    (fresh_each scale (fresh_end scale seed) names low (All-tail P name names base))

abbrev IsSmall : SetImage → Type 0
IsSmall image = image.size ≤ 2 ^ 39

fresh_room : (scale seed : ℕ) (names : List (List ℕ))
    → scale ≤ 64
    → HasRoom (fresh_images scale seed names)
unfolding fresh_images
fresh_room scale seed [] low = All-nil IsSmall
fresh_room scale seed (name ∷ names) low =
    All-cons IsSmall (fresh_image scale seed name)
    (fresh_images scale (fresh_end scale seed) names) (fresh_small scale seed name low)
    (fresh_room scale (fresh_end scale seed) names low)

next_names : (scale seed : ℕ) (set : List SetImage)
    → map name_of (next_set scale seed set) ≡ map name_of set
unfolding next_set
next_names scale seed [] = refl
next_names scale seed (old ∷ set) =
    (λ i. next_name scale seed old i ∷ next_names scale (next_end scale seed old) set i)

next_each : (scale seed : ℕ) (set : List SetImage)
    → scale ≤ 64
    → HasRoom set
    → All IsImage set
    → All IsImage (next_set scale seed set)
unfolding next_set
next_each scale seed [] low room is = All-nil IsImage
next_each scale seed (old ∷ set) low room is =
    All-cons IsImage (next_image scale seed old) (next_set scale (next_end scale seed old) set)
    (next_fits scale seed old low (All-head IsSmall old set room) (All-head IsImage old set is))
    (next_each scale (next_end scale seed old) set low (All-tail IsSmall old set room)
    (All-tail IsImage old set is))

-- images of names that differ
apart : (images : List SetImage) (names : List (List ℕ))
    → map name_of images ≡ names
    → AllPairs (λ a b. a ≢ b) names
    → AllPairs (λ a b. a.name ≢ b.name) images
apart images names same differ i j d lt below e =
    let long : length names ≡ length images =
    ap length (sym same) ∙ length-map images name_of in
    let at : (k : ℕ) → k < length images → (get_or images k d).name ≡ get_or names k [] =
    λ k inside.
    sym (get_or-map name_of images k d [] inside)
    ∙ ap (λ (l : List (List ℕ)). get_or l k []) same in
    differ i j [] lt (omega (arith, long, below)) (sym (at i (omega (arith, lt, below))) ∙ e
    ∙ at j below)

names_apart : (images : List SetImage)
    → AllPairs (λ a b. a.name ≢ b.name) images
    → AllPairs (λ a b. a ≢ b) (map name_of images)
names_apart images differ i j d lt below e =
    let long : length (map name_of images) ≡ length images = length-map images name_of in
    let none : SetImage = record { name = []; size = 0; store = 0; bytes = [] } in
    let at : (k : ℕ) → k < length images → (get_or images k none).name
    ≡ get_or (map name_of images) k d = λ k inside.
    sym (get_or-map name_of images k none d inside) in
    differ i j none lt (omega (arith, long, below))
    (at i (omega (arith, lt, below, long)) ∙ e ∙ sym (at j (omega (arith, below, long))))

base_each : All (λ name. IsTrue (is_base name)) base_names
unfolding is_base is_name
base_each zero d lt = refl
base_each (suc zero) d lt = refl
base_each (suc (suc zero)) d lt = refl
base_each (suc (suc (suc zero))) d lt = refl
base_each (suc (suc (suc (suc k)))) d lt = absurd (omega arith)

-- two texts with different first bytes
other : (a b : List ℕ) → get_or a 0 0 < get_or b 0 0 → a ≢ b
other a b lt e = omega (arith, lt, ap (λ (l : List ℕ). get_or l 0 0) e)

base_apart : AllPairs (λ a b. a ≢ b) base_names
base_apart i zero d lt below = absurd (omega arith)
base_apart zero (suc zero) d lt below = other (codes "odm") (codes "product") (omega arith)
base_apart zero (suc (suc zero)) d lt below = other (codes "odm") (codes "system") (omega arith)
base_apart zero (suc (suc (suc zero))) d lt below =
    other (codes "odm") (codes "vendor") (omega arith)
base_apart (suc i) (suc zero) d lt below = absurd (omega arith)
base_apart (suc zero) (suc (suc zero)) d lt below =
    other (codes "product") (codes "system") (omega arith)
base_apart (suc zero) (suc (suc (suc zero))) d lt below =
    other (codes "product") (codes "vendor") (omega arith)
base_apart (suc (suc i)) (suc (suc zero)) d lt below = absurd (omega arith)
base_apart (suc (suc zero)) (suc (suc (suc zero))) d lt below =
    other (codes "system") (codes "vendor") (omega arith)
base_apart (suc (suc (suc i))) (suc (suc (suc zero))) d lt below = absurd (omega arith)
base_apart i (suc (suc (suc (suc j)))) d lt below = absurd (omega arith)

pub fresh_is_set : (scale seed : ℕ) → scale ≤ 64 → IsSet (fresh_set scale seed)
unfolding fresh_set
fresh_is_set scale seed low =
    let images : List SetImage = fresh_images scale seed base_names in
    let names = fresh_names scale seed base_names in
    record {
      count = omega (arith, sym (length-map images name_of) ∙ ap length names);
      each = fresh_each scale seed base_names low base_each;
      names = apart images base_names names base_apart;
    }

pub fresh_has_room : (scale seed : ℕ) → scale ≤ 64 → HasRoom (fresh_set scale seed)
unfolding fresh_set
fresh_has_room scale seed low = fresh_room scale seed base_names low

pub next_is_set : (scale seed : ℕ) (set : List SetImage)
    → scale ≤ 64
    → HasRoom set
    → IsSet set
    → IsSet (next_set scale seed set)
next_is_set scale seed set low room is =
    let images : List SetImage = next_set scale seed set in
    let names = next_names scale seed set in
    record {
      count = omega (
        arith,
        is.count,
        sym (length-map images name_of) ∙ ap length names
            ∙ length-map set name_of,
      );
      each = next_each scale seed set low room is.each;
      names = apart images (map name_of set) names (names_apart set is.names);
    }
