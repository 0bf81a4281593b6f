-- What a source file is, from what was read of it.
use Rattle.std.proofs.Common.{◌≡◌, ℕ, List, subst, ◌∙◌, Option, None, Some, Result, Ok, Err, Global}
use Rattle.std.specs.Prelude.{IfSome, IfOk}
use Rattle.std.specs.FinMap.{get}
use Rattle.std.specs.declared.vec.Vec.{Vec}
use Rattle.io_edge.specs.File.{Files}
use Rattle.lib_create.specs.code.Loading.{IsLoaded}
use Rattle.lib_create.specs.declared.load.Loaded.{Loaded}
use Rattle.lib_create.specs.declared.load.Loaded.TheVariants.{Bytes}
use Rattle.lib_create.specs.declared.stop.Stop.{Stop}
use Rattle.lib_create.specs.declared.compile.Compiled.{Compiled}
use Rattle.lib_create.specs.code.Compiling.{IsCompiled}

-- the bytes that were read of a file are what its name holds
loaded_is : (found : Option (List ℕ)) (limit : ℕ) (top bytes : List ℕ) (loaded : Loaded) (v : Vec ℕ Global) (compiled : Compiled) → loaded ≡ Bytes v → bytes ≡ v.items → IsLoaded found limit loaded → IsCompiled (Some bytes) top compiled → IsCompiled found top compiled
loaded_is None limit top bytes loaded v compiled same items is compiles = absurd (subst (IsLoaded None limit) same is)
loaded_is (Some held) limit top bytes loaded v compiled same items is compiles =
    let read : IsLoaded (Some held) limit (Bytes v) = subst (IsLoaded (Some held) limit) same is in
    subst (λ bs. IsCompiled (Some bs) top compiled) (items ∙ read.0) compiles

loaded_told : (content : Option Files) (name : List ℕ) (limit : ℕ) (top bytes : List ℕ) (loaded : Loaded) (v : Vec ℕ Global) (compiled : Compiled) → loaded ≡ Bytes v → bytes ≡ v.items → IfSome content (λ files. IsLoaded (get files name) limit loaded) → IsCompiled (Some bytes) top compiled → IfSome content (λ files. IsCompiled (get files name) top compiled)
loaded_told None name limit top bytes loaded v compiled same items is compiles = tt
loaded_told (Some files) name limit top bytes loaded v compiled same items is compiles = loaded_is (get files name) limit top bytes loaded v compiled same items is compiles

pub loaded_compiled : (result : Result Compiled Stop) (content : Option Files) (name : List ℕ) (limit : ℕ) (top bytes : List ℕ) (loaded : Loaded) (v : Vec ℕ Global) → loaded ≡ Bytes v → bytes ≡ v.items → IfSome content (λ files. IsLoaded (get files name) limit loaded) → IfOk result (λ compiled. IsCompiled (Some bytes) top compiled) → IfOk result (λ compiled. IfSome content (λ files. IsCompiled (get files name) top compiled))
loaded_compiled (Ok compiled) content name limit top bytes loaded v same items is compiles = loaded_told content name limit top bytes loaded v compiled same items is compiles
loaded_compiled (Err stop) content name limit top bytes loaded v same items is compiles = tt
