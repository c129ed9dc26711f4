-- What a reader hears for while it reads a packet, and the data of a download.
use Rattle.std.proofs.Common.{◌≡◌, inl, ℕ, ◌+◌, ◌<◌, ◌≤◌, List, [], ◌++◌, length, take, drop, sym}
use Rattle.std.proofs.Common.{◌∙◌, ap, subst, arith, append_assoc, length-append}
use Rattle.std.specs.List.{flat_map}
use Rattle.vab_disk.specs.declared.disk.Disk.{Ghosts}
use Rattle.vab_fbtcp.specs.Frame.{IsIdle, body_place}
use Rattle.vab_fbtcp.specs.declared.event.Place.{Place}
use Rattle.vab_fbtcp.specs.declared.event.Place.TheVariants.{Length}
use Rattle.vab_exchanges.specs.Hearing.{Listens}
use Rattle.vab_exchanges.specs.Reading.{IsFewerThan}
use Rattle.vab_exchanges.specs.Session.{packet, length_at, IsCutShort, IsAwaited}
use Rattle.vab_exchanges.proofs.Events.{body_some}
use Rattle.vab_exchanges.proofs.Listening.{listens_wider, listens_then, wants_behind, all_behind}
use Rattle.vab_exchanges.proofs.Listening.{taken_off, short_behind, awaited_behind}
use Rattle.vab_exchanges.proofs.Stops.{HasSome}

few_behind : (place : Place) (left count : ℕ) (front came : List ℕ)
    → place ≡ body_place left
    → 0 < left
    → length front + left ≤ count
    → IsIdle place came
    → length (front ++ came) < count
few_behind place left count front came is some long idle =
    let none : came ≡ [] = subst (λ p. IsIdle p came) (is ∙ body_some left some) idle in
    omega (arith, length-append front came, ap length none, long, some)

module _ {D : Type 0} (g : Ghosts D) (a b c : D) where
  -- once more, while no event stands in what has come
  pub listens_idle : (place at : Place) (u u' all : List ℕ) (room : ℕ)
      → Listens g all (IsIdle place) a b
      → (g.is_modelled
      → all ≡ (u ++ take room (g.input_left b)) ++ drop room (g.input_left b))
      → u' ≡ u
      → at ≡ place
      → IsIdle at u'
      → Listens g
      ((u' ++ take room (g.input_left b)) ++ drop room (g.input_left b))
      (λ came. came ≡ u')
      b c
      → Listens g all (IsIdle place) a c
  listens_idle place at u u' all room so_far is stays there idle hears =
      let rest : List ℕ → List ℕ =
      λ l. (l ++ take room (g.input_left b)) ++ drop room (g.input_left b) in
      listens_then g (rest u') all (λ came. came ≡ u') (IsIdle place) a b c so_far hears
      (λ t left wants.
      wants_behind [] (rest u') all (λ came. came ≡ u') (IsIdle place) left
      (is t ∙ ap rest (sym stays))
      (λ came same.
      subst (λ (l : List ℕ). IsIdle place l) (sym same) (subst (λ p. IsIdle p u') there idle))
      wants)

  -- within a packet
  pub listens_body : (place : Place) (left count : ℕ) (front rest rest' beyond beyond' : List ℕ)
      → place ≡ body_place left
      → 0 < left
      → length front + left ≤ count
      → (g.is_modelled → rest ≡ front ++ rest')
      → (g.is_modelled → beyond' ≡ beyond)
      → Listens g (rest ++ beyond) (IsFewerThan count) a b
      → Listens g (rest' ++ beyond') (IsIdle place) b c
      → Listens g (rest ++ beyond) (IsFewerThan count) a c
  listens_body place left count front rest rest' beyond beyond' is some long behind same x y =
      listens_then g
      (rest' ++ beyond') (rest ++ beyond)
      (IsIdle place) (IsFewerThan count)
      a b c x y
      (λ t wanted wants.
      wants_behind front (rest' ++ beyond') (rest ++ beyond) (IsIdle place) (IsFewerThan count)
      wanted
      (all_behind front rest rest' beyond beyond' (behind t) (same t))
      (λ came idle. few_behind place left count front came is some long idle)
      wants)

  -- behind the length of a command packet
  pub listens_packet : (place : Place) (n : ℕ) (rest rest' beyond beyond' : List ℕ)
      → place ≡ Length
      → n ≤ 4096
      → (g.is_modelled → 8 ≤ length rest)
      → (g.is_modelled → n ≡ length_at rest)
      → (g.is_modelled → rest' ≡ drop 8 rest)
      → (g.is_modelled → beyond' ≡ beyond)
      → Listens g (rest ++ beyond) (IsIdle place) a b
      → Listens g (rest' ++ beyond') (IsFewerThan n) b c
      → Listens g (rest ++ beyond) (IsCutShort 4096) a c
  listens_packet place n rest rest' beyond beyond' is fits eight spelled behind same x y =
      let all = rest ++ beyond in
      let first : Listens g all (IsCutShort 4096) a b =
      listens_wider g all all (IsIdle place) (IsCutShort 4096) a b
      (λ t wanted wants.
      wants_behind [] all all (IsIdle place) (IsCutShort 4096) wanted (λ i. all)
      (λ came idle. inl (subst (λ p. IsIdle p came) is idle))
      wants)
      x in
      listens_then g (rest' ++ beyond') all (IsFewerThan n) (IsCutShort 4096) a b c first y
      (λ t wanted wants.
      wants_behind (take 8 rest) (rest' ++ beyond') all (IsFewerThan n) (IsCutShort 4096) wanted
      (all_behind (take 8 rest) rest rest' beyond beyond' (taken_off 8 rest rest' (behind t))
      (same t))
      (λ came few. short_behind 4096 n rest came (eight t) (spelled t) fits few)
      wants)

  -- where the length of a data packet is to come
  pub listens_head : (place : Place) (due left : ℕ) (rest rest' beyond beyond' bytes : List ℕ)
      → place ≡ Length
      → 0 < left
      → (g.is_modelled → HasSome due left rest rest' bytes)
      → (g.is_modelled → beyond' ≡ beyond)
      → Listens g (rest ++ beyond) (IsAwaited due) a b
      → Listens g (rest' ++ beyond') (IsIdle place) b c
      → Listens g (rest ++ beyond) (IsAwaited due) a c
  listens_head place due left rest rest' beyond beyond' bytes is some so_far same x y =
      listens_then g
      (rest' ++ beyond') (rest ++ beyond)
      (IsIdle place) (IsAwaited due)
      a b c x y
      (λ t wanted wants.
      let so = so_far t in
      let front = flat_map packet so.parts in
      wants_behind front (rest' ++ beyond') (rest ++ beyond) (IsIdle place) (IsAwaited due) wanted
      (all_behind front rest rest' beyond beyond' so.is (same t))
      (λ came idle.
      awaited_behind due left so.parts came some so.leaves
      (inl (subst (λ p. IsIdle p came) is idle)))
      wants)

  -- behind the length of a data packet
  pub listens_part : (due left n : ℕ) (rest here rest' beyond beyond' bytes : List ℕ)
      → 0 < left
      → n ≤ left
      → (g.is_modelled → HasSome due left rest here bytes)
      → (g.is_modelled → 8 ≤ length here)
      → (g.is_modelled → n ≡ length_at here)
      → (g.is_modelled → rest' ≡ drop 8 here)
      → (g.is_modelled → beyond' ≡ beyond)
      → Listens g (rest ++ beyond) (IsAwaited due) a b
      → Listens g (rest' ++ beyond') (IsFewerThan n) b c
      → Listens g (rest ++ beyond) (IsAwaited due) a c
  listens_part due left n rest here rest' beyond beyond' bytes some fits so_far eight spelled
      behind same x y =
      listens_then g
      (rest' ++ beyond') (rest ++ beyond)
      (IsFewerThan n) (IsAwaited due)
      a b c x y
      (λ t wanted wants.
      let so = so_far t in
      let packets = flat_map packet so.parts in
      let head = take 8 here in
      let front = packets ++ head in
      let there : rest ≡ front ++ rest' =
      so.is
      ∙ ap (λ (l : List ℕ). packets ++ l) (taken_off 8 here rest' (behind t))
      ∙ sym (append_assoc packets head rest') in
      wants_behind front (rest' ++ beyond') (rest ++ beyond) (IsFewerThan n) (IsAwaited due) wanted
      (all_behind front rest rest' beyond beyond' there (same t))
      (λ came few.
      subst (λ (l : List ℕ). IsAwaited due l) (sym (append_assoc packets head came))
      (awaited_behind due left so.parts (head ++ came) some so.leaves
      (short_behind left n here came (eight t) (spelled t) fits few)))
      wants)
