-- Where each refusal stands.
use Rattle.std.proofs.Common.{◌≡◌, ◌⊎◌, ⊎_elim, ℕ, ◌*◌, ◌≤◌, ◌<◌, true, false, eqb, ltb, List}
use Rattle.std.proofs.Common.{Option, Some, None, refl, sym, ap, arith}
use Rattle.std.proofs.lemmas.Bool.{lt-ltb, le-ltb, ne_eqb}
use Rattle.std.proofs.lemmas.Bool.Decides.{nat_tests}
use Rattle.vab_tables.specs.Rules.{cap_of}
use Rattle.vab_set.specs.declared.set.SetImage.{SetImage}
use Rattle.vab_make.specs.declared.fault.MakeFault.{MakeFault}
use Rattle.vab_make.specs.declared.fault.MakeFault.TheVariants.{TooSmall, GroupLimit, NoRoom}
use Rattle.vab_make.specs.declared.fault.MakeFault.TheVariants.{TableFull, NoMemory}
use Rattle.vab_make.specs.Made.{set_blocks, made_device, set_text_size, is_over, refusal_of}
use Rattle.vab_make.specs.Refusals.{Refuses, PassesSizes}

pub no_memory : (said : Option MakeFault) → Refuses NoMemory said
no_memory said = record { gives = tt; not_disk = λ none. none }

pub refuses_small : (set : List SetImage) (limit max size : ℕ)
    → size < 6152
    → Refuses (TooSmall 6152 size) (refusal_of set limit max size)
unfolding refusal_of
refuses_small set limit max size few =
    let small : ltb size 6152 ≡ true = lt-ltb _ _ few in
    record { gives = rw small refl; not_disk = λ none. none }

over : (set : List SetImage) (limit : ℕ)
    → (limit ≡ 0 → ⊥)
    → limit < 4096 * set_blocks set
    → is_over set limit ≡ true
over set limit some much =
    let limited : eqb limit 0 ≡ false = ne_eqb limit 0 some in
    let more : ltb limit (4096 * set_blocks set) ≡ true = lt-ltb _ _ much in
    rw (limited, more) refl

pub not_over : (set : List SetImage) (limit : ℕ)
    → (limit ≡ 0) ⊎ (4096 * set_blocks set ≤ limit)
    → is_over set limit ≡ false
not_over set limit fits =
    ⊎_elim (λ none. grind (arith, nat_tests)) (λ less. grind (arith, nat_tests)) fits

pub refuses_limit : (set : List SetImage) (limit max size used : ℕ)
    → 6152 ≤ size
    → used ≡ set_blocks set
    → (limit ≡ 0 → ⊥)
    → limit < 4096 * used
    → Refuses (GroupLimit (4096 * used) limit) (refusal_of set limit max size)
unfolding refusal_of
refuses_limit set limit max size used enough is some much =
    let big : ltb size 6152 ≡ false = le-ltb _ _ enough in
    let more : is_over set limit ≡ true = over set limit some (omega (arith, much, is)) in
    record {
      gives = rw (big, more) (ap (λ (n : ℕ). Some (GroupLimit (4096 * n) limit)) (sym is));
      not_disk = λ none. none;
    }

pub refuses_room : (set : List SetImage) (limit max size used cap : ℕ)
    → 6152 ≤ size
    → used ≡ set_blocks set
    → cap ≡ cap_of (made_device size)
    → is_over set limit ≡ false
    → cap < used
    → Refuses (NoRoom used cap) (refusal_of set limit max size)
unfolding refusal_of
refuses_room set limit max size used cap enough is room fits many =
    let big : ltb size 6152 ≡ false = le-ltb _ _ enough in
    let full : ltb (cap_of (made_device size)) (set_blocks set) ≡ true =
    lt-ltb _ _ (omega (arith, many, is, room)) in
    record {
      gives = rw (big, fits, full) (λ i. Some (NoRoom (sym is i) (sym room i)));
      not_disk = λ none. none;
    }

pub refuses_table : (set : List SetImage) (limit max size text : ℕ)
    → PassesSizes set limit size
    → text ≡ set_text_size set limit size
    → max < text
    → Refuses (TableFull text max) (refusal_of set limit max size)
unfolding refusal_of
refuses_table set limit max size text passes is long =
    let big : ltb size 6152 ≡ false = le-ltb _ _ passes.enough in
    let limited = passes.limited in
    let room : ltb (cap_of (made_device size)) (set_blocks set) ≡ false = le-ltb _ _ passes.room in
    let full : ltb max (set_text_size set limit size) ≡ true =
    lt-ltb _ _ (omega (arith, long, is)) in
    record {
      gives = rw (big, limited, room, full) (ap (λ (n : ℕ). Some (TableFull n max)) (sym is));
      not_disk = λ none. none;
    }

pub refuses_nothing : (set : List SetImage) (limit max size : ℕ)
    → PassesSizes set limit size
    → set_text_size set limit size ≤ max
    → refusal_of set limit max size ≡ None
unfolding refusal_of
refuses_nothing set limit max size passes fits =
    let big : ltb size 6152 ≡ false = le-ltb _ _ passes.enough in
    let limited = passes.limited in
    let room : ltb (cap_of (made_device size)) (set_blocks set) ≡ false = le-ltb _ _ passes.room in
    let short : ltb max (set_text_size set limit size) ≡ false = le-ltb _ _ fits in
    rw (big, limited, room, short) refl
