-- That a pointer is not null is a proposition.
use mathlib.Core.Path.{refl}
use denote.RawPtr.{Ptr, block_ptr, null_ptr, InBlock}

pub placed_once : (p : Ptr) → IsProp (InBlock p)
placed_once (block_ptr b o) x y = refl
placed_once null_ptr x y = absurd x
