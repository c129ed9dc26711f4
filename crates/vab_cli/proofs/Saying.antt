-- How what is told joins, one piece behind another.
use Rattle.std.proofs.Common.{◌≡◌, ◌∙◌, ℕ, ◌+◌, min, List, [], ◌++◌, length, take, Result, Ok, Err}
use Rattle.std.proofs.Common.{refl, sym, ap, arith, append_assoc}
use Rattle.std.specs.Prelude.{OnOk}
use Rattle.std.proofs.lemmas.List.{append-nil, take-append-le, take_min}
use Rattle.std.proofs.Math.Seq.{take-append-add}
use Rattle.vab_disk.specs.declared.disk.Disk.{Ghosts}
use Rattle.vab_disk.specs.Disk.{Nothing}
use Rattle.vab_disk.specs.Calls.{OnlyReads}
use Rattle.vab_disk.proofs.Moments.{adds_none, adds_wider, adds_on}
use Rattle.vab_cli.specs.Telling.{Says}

on_ok_map : {A E : Type 0} (r : Result A E) (P Q : Type 0) → (P → Q) → OnOk r P → OnOk r Q
on_ok_map (Ok x) P Q f is = f is
on_ok_map (Err e) P Q f is = tt

-- a front of the first piece is one of both
front_first : (a b : List ℕ) (n : ℕ) → take n a ≡ take (min n (length a)) (a ++ b)
front_first a b n =
    sym (take_min n a) ∙ sym (take-append-le (min n (length a)) a b (omega arith))

-- and all of the first with a front of the second
front_second : (told a b : List ℕ) (n : ℕ)
    → (told ++ a) ++ take n b ≡ told ++ take (length a + n) (a ++ b)
front_second told a b n =
    append_assoc told a (take n b)
    ∙ ap (λ (l : List ℕ). told ++ l) (sym (take-append-add a b n))

module _ {D : Type 0} (g : Ghosts D) where
  pub says_none : {A E : Type 0} (x : A) (d : D) → Says g {A = A} {E = E} [] d d (Ok x)
  says_none x d = record {
    told = sym (append-nil (g.told d));
    front = (0, sym (append-nil (g.told d)));
    seen = refl;
    crash = record { keeps = λ s b h. h; no_more = λ s b h. h };
    left = refl;
    heard = refl;
    time = adds_none g.moment g.outcomes d _;
  }

  -- one piece behind another
  pub says_on : {A E B F : Type 0} (a b : List ℕ) (old mid new : D) (x : A) (r : Result B F)
      → Says g {A = A} {E = E} a old mid (Ok x)
      → Says g b mid new r
      → Says g (a ++ b) old new r
  says_on a b old mid new x r first second = record {
    told = on_ok_map r _ _
        (λ is.
        is ∙ ap (λ (l : List ℕ). l ++ b) first.told ∙ append_assoc (g.told old) a b)
        second.told;
    front = (let front = second.front in (
      length a + front.0,
      front.1
          ∙ ap (λ (l : List ℕ). l ++ take front.0 b) first.told
          ∙ front_second (g.told old) a b front.0,
    ));
    seen = second.seen ∙ first.seen;
    crash = record {
      keeps = λ s x h. (let crash = second.crash in crash.keeps) s x
          ((let crash = first.crash in crash.keeps) s x h);
      no_more = λ s x h. (let crash = first.crash in crash.no_more) s x
          ((let crash = second.crash in crash.no_more) s x h);
    };
    left = second.left ∙ first.left;
    heard = second.heard ∙ first.heard;
    time =
        adds_on g.moment g.outcomes old mid new _ _
        (adds_wider g.moment g.outcomes old mid _ _ first.time
        (λ o leaves. record {
          front = (
            min leaves.front.0 (length a),
            leaves.front.1
                ∙ ap (λ (l : List ℕ). g.told old ++ l) (front_first a b leaves.front.0),
          );
          each_sector = leaves.each_sector;
        }))
        second.time
        (λ o leaves. record {
          front = (
            length a + leaves.front.0,
            leaves.front.1
                ∙ ap (λ (l : List ℕ). l ++ take leaves.front.0 b) first.told
                ∙ front_second (g.told old) a b leaves.front.0,
          );
          each_sector = λ s.
              (let crash = first.crash in crash.no_more) s (o.image s) (leaves.each_sector s);
        });
  }

  -- what was told of a part is a front of the whole
  pub says_front : {A E : Type 0} (a b : List ℕ) (old new : D) (e : E)
      → Says g {A = A} a old new (Err e)
      → Says g {A = A} (a ++ b) old new (Err e)
  says_front a b old new e says = record {
    told = tt;
    front = (let front = says.front in (
      min front.0 (length a),
      front.1 ∙ ap (λ (l : List ℕ). g.told old ++ l) (front_first a b front.0),
    ));
    seen = says.seen;
    crash = says.crash;
    left = says.left;
    heard = says.heard;
    time =
        adds_wider g.moment g.outcomes old new _ _ says.time
        (λ o leaves. record {
          front = (
            min leaves.front.0 (length a),
            leaves.front.1
                ∙ ap (λ (l : List ℕ). g.told old ++ l) (front_first a b leaves.front.0),
          );
          each_sector = leaves.each_sector;
        });
  }

  -- nothing was told, for what was read failed
  pub says_nothing : {A E : Type 0} (bytes : List ℕ) (old new : D) (e : E)
      → (t : g.is_modelled)
      → OnlyReads g old new
      → Says g {A = A} bytes old new (Err e)
  says_nothing bytes old new e t reads = record {
    told = tt;
    front = (0, reads.quiet.told t ∙ sym (append-nil (g.told old)));
    seen = reads.seen t;
    crash = reads.crash t;
    left = reads.quiet.left t;
    heard = reads.quiet.heard t;
    time = adds_wider g.moment g.outcomes old new Nothing _ (reads.time t) (λ o none. absurd none);
  }

  -- what is told behind what was only read
  pub says_behind : {A E : Type 0} (bytes : List ℕ) (old mid new : D) (r : Result A E)
      → (t : g.is_modelled)
      → OnlyReads g old mid
      → Says g bytes mid new r
      → Says g bytes old new r
  says_behind bytes old mid new r t reads says = record {
    told = on_ok_map r _ _
        (λ is. is ∙ ap (λ (l : List ℕ). l ++ bytes) (reads.quiet.told t)) says.told;
    front = (let front = says.front in (
      front.0,
      front.1 ∙ ap (λ (l : List ℕ). l ++ take front.0 bytes) (reads.quiet.told t),
    ));
    seen = says.seen ∙ reads.seen t;
    crash = record {
      keeps = λ s x h. (let crash = says.crash in crash.keeps) s x ((reads.crash t).keeps s x h);
      no_more = λ s x h. (reads.crash t).no_more s x
          ((let crash = says.crash in crash.no_more) s x h);
    };
    left = says.left ∙ reads.quiet.left t;
    heard = says.heard ∙ reads.quiet.heard t;
    time =
        adds_on g.moment g.outcomes old mid new _ _
        (adds_wider g.moment g.outcomes old mid Nothing _ (reads.time t) (λ o none. absurd none))
        says.time
        (λ o leaves. record {
          front = (
            leaves.front.0,
            leaves.front.1
                ∙ ap (λ (l : List ℕ). l ++ take leaves.front.0 bytes) (reads.quiet.told t),
          );
          each_sector = λ s. (reads.crash t).no_more s (o.image s) (leaves.each_sector s);
        });
  }
