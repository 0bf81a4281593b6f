-- Sets of names to which one is added.
use Rattle.std.proofs.Common.{◌≡◌, ℕ, Bool, true, false, List, if◌then◌else◌, refl, sym, subst, ◌∙◌}
use Rattle.std.specs.Cmp.Lexicographic.{bytes_decides, nat_list_eq_equiv}
use Rattle.std.specs.Map.{IsKeyTest, AreApart}
use Rattle.std.specs.Set.{KeepsOthers}
use Rattle.std.specs.List.{list_any}
use Rattle.std.specs.Str.{bytes_eq}
use Rattle.std.specs.Vec.{vec_items}
use Rattle.std.specs.declared.vec.Vec.{Vec}
use Rattle.indexmap.specs.IndexSet.{IndexSet, contains_by, Updates}

-- whether a set has these bytes
abbrev pub has_bytes : {Z S : Type 0} → IndexSet (Vec ℕ Z) S → List ℕ → Bool
has_bytes set name = contains_by (λ key. bytes_eq name (vec_items key)) set

-- a key that is apart stays where it was
other_keys : {K : Type 0} (eq : K → K → Bool) (test : K → Bool) (old new : List K) → KeepsOthers eq test old new
    → (other : K → Bool) → IsKeyTest eq other → AreApart test other → list_any other new ≡ list_any other old
unfolding KeepsOthers
other_keys eq test old new h = h

-- other bytes are not those of a key
apart : (bs cs ks : List ℕ) → bytes_eq bs cs ≡ false → bytes_eq bs ks ≡ true → bytes_eq cs ks ≡ false
apart bs cs ks n y = nat_list_eq_equiv.symm cs ks ∙ sym (nat_list_eq_equiv.congr bs ks cs y) ∙ n

-- g is w at some bytes, and f at others
by_bytes : {W : Type 0} (f g : List ℕ → W) (bs : List ℕ) (w : W) → g bs ≡ w → ((cs : List ℕ) → bytes_eq bs cs ≡ false → g cs ≡ f cs)
    → (cs : List ℕ) → g cs ≡ (if bytes_eq bs cs then w else f cs)
by_bytes {W} f g bs w here other cs = go (bytes_eq bs cs) refl
  where
    go : (b : Bool) → bytes_eq bs cs ≡ b → g cs ≡ (if b then w else f cs)
    go true y = subst (λ (l : List ℕ). g l ≡ w) ((bytes_decides bs cs).0 y) here
    go false n = other cs n

-- a set that has one key more
pub added : {Z S : Type 0} (key : Vec ℕ Z) (m n : IndexSet (Vec ℕ Z) S) → Updates (λ x y. bytes_eq (vec_items x) (vec_items y)) m n key true
    → (cs : List ℕ) → has_bytes n cs ≡ (if bytes_eq (vec_items key) cs then true else has_bytes m cs)
added key m n h =
    by_bytes (has_bytes m) (has_bytes n) (vec_items key) true h.1
    (λ cs e. other_keys _ _ _ _ h.3 _ (λ x y. nat_list_eq_equiv.congr cs (vec_items x) (vec_items y)) (λ k. apart (vec_items key) cs (vec_items k) e))

-- so where the key has some bytes
pub added_at : {Z S : Type 0} (key : Vec ℕ Z) (bs : List ℕ) (m n : IndexSet (Vec ℕ Z) S) → vec_items key ≡ bs
    → Updates (λ x y. bytes_eq (vec_items x) (vec_items y)) m n key true
    → (cs : List ℕ) → has_bytes n cs ≡ (if bytes_eq bs cs then true else has_bytes m cs)
added_at key bs m n e h cs =
    subst (λ (b : List ℕ). has_bytes n cs ≡ (if bytes_eq b cs then true else has_bytes m cs)) e (added key m n h cs)
