-- Names that stand for something else, in a map by their bytes.
use Rattle.std.proofs.Common.{◌≡◌, ℕ, Bool, true, false, List, Option, Result, Ok, Err, OnErr, if◌then◌else◌, refl, sym, subst, ◌∙◌}
use Rattle.std.specs.Cmp.Lexicographic.{bytes_decides, nat_list_eq_equiv}
use Rattle.std.specs.Map.{lookup, IsKeyTest, AreApart, KeepsOthers}
use Rattle.std.specs.Str.{bytes_eq}
use Rattle.std.specs.Vec.{vec_items}
use Rattle.std.specs.declared.vec.Vec.{Vec}
use Rattle.indexmap.specs.IndexMap.{IndexMap, UpdatesBy, Updates}
use Rattle.const_eval.specs.Env.{at_bytes}

-- a key that is apart keeps its value
other_entries : {K X : Type 0} (eq : K → K → Bool) (test : K → Bool) (old new : List (K × X)) → KeepsOthers eq test old new
    → (other : K → Bool) → IsKeyTest eq other → AreApart test other → lookup other new ≡ lookup other old
unfolding KeepsOthers
other_entries eq test old new h = h

-- other bytes are not those of a key
apart : (bs cs ks : List ℕ) → bytes_eq bs cs ≡ false → bytes_eq bs ks ≡ true → bytes_eq cs ks ≡ false
apart bs cs ks n y = nat_list_eq_equiv.symm cs ks ∙ sym (nat_list_eq_equiv.congr bs ks cs y) ∙ n

-- g is w at some bytes, and f at others
by_bytes : {W : Type 0} (f g : List ℕ → W) (bs : List ℕ) (w : W) → g bs ≡ w → ((cs : List ℕ) → bytes_eq bs cs ≡ false → g cs ≡ f cs)
    → (cs : List ℕ) → g cs ≡ (if bytes_eq bs cs then w else f cs)
by_bytes {W} f g bs w here other cs = go (bytes_eq bs cs) refl
  where
    go : (b : Bool) → bytes_eq bs cs ≡ b → g cs ≡ (if b then w else f cs)
    go true y = subst (λ (l : List ℕ). g l ≡ w) ((bytes_decides bs cs).0 y) here
    go false n = other cs n

-- a map that changes at some bytes
pub rebound : {X Z S : Type 0} (bs : List ℕ) (m n : IndexMap (Vec ℕ Z) X S) (w : Option X)
    → UpdatesBy (λ x y. bytes_eq (vec_items x) (vec_items y)) (λ k. bytes_eq bs (vec_items k)) m n w
    → (cs : List ℕ) → at_bytes n cs ≡ (if bytes_eq bs cs then w else at_bytes m cs)
rebound bs m n w h =
    by_bytes (at_bytes m) (at_bytes n) bs w h.1
    (λ cs e. other_entries _ _ _ _ h.3 _ (λ x y. nat_list_eq_equiv.congr cs (vec_items x) (vec_items y)) (λ k. apart bs cs (vec_items k) e))

-- so where the key of a change has some bytes
pub rebound_at : {X Z S : Type 0} (key : Vec ℕ Z) (bs : List ℕ) (m n : IndexMap (Vec ℕ Z) X S) (w : Option X) → vec_items key ≡ bs
    → Updates (λ x y. bytes_eq (vec_items x) (vec_items y)) m n key w → (cs : List ℕ) → at_bytes n cs ≡ (if bytes_eq bs cs then w else at_bytes m cs)
rebound_at key bs m n w e h cs = subst (λ (b : List ℕ). at_bytes n cs ≡ (if bytes_eq b cs then w else at_bytes m cs)) e (rebound (vec_items key) m n w h cs)

-- so where the bytes of a query are these
pub rebound_for : {X Z S : Type 0} (query bs : List ℕ) (m n : IndexMap (Vec ℕ Z) X S) (w : Option X) → query ≡ bs
    → UpdatesBy (λ x y. bytes_eq (vec_items x) (vec_items y)) (λ k. bytes_eq query (vec_items k)) m n w → (cs : List ℕ) → at_bytes n cs ≡
    (if bytes_eq bs cs then w else at_bytes m cs)
rebound_for query bs m n w e h cs = subst (λ (b : List ℕ). at_bytes n cs ≡ (if bytes_eq b cs then w else at_bytes m cs)) e (rebound query m n w h cs)

-- what holds anyway
pub in_any_error : {T E : Type 0} (r : Result T E) (P : Type 0) → P → OnErr r P
in_any_error (Ok x) P h = tt
in_any_error (Err e) P h = h
