-- `ends` takes the one reference to the pair from `pair`, and cuts its borrow into one of each part. The mixer's name follows that of the pair, which follows the two. Assumes `Logic`.
--     second      the offset of the pair's second part
--     back        the two parts in memory, with what is left of the pair's place, are the pair
--     both_then   if one value follows another, and that one follows two, the first follows the two
use Rattle.std.proofs.Common.{◌≡◌, ℕ, ◌+◌, List, [], ◌∷◌, refl, ap, MutBor}
use Rattle.std.proofs.raw_atomic.Walks.{proved}
use seplogic.Ra.Ura.{Ura}
use base.Fraction.{full_share}
use base.Logic.{SProp, ent, sep, wand, id⊢}
use base.Fml.{ftrue, flft, fobs, fbor, fres, GName}
use mir.Syntax.{named}
use mir.Val.{Val, vptr, vstruct, vcons, vnil}
use contract.Monad.{fact}
use contract.Running.{tables}
use prog.Memory.{align, size, up}
use types.Logic.{Logic, sem}
use types.SemTy.{Body}
use types.Kit.{‵, raw, ◌⊛◌, some, later, ◌$◌, ◌∵◌, !, qed, by, done, each, assume, move, keep, drop, use1, use2, split, split3, join, fsplit3, fjoin, fjoin3, fpack, feq_i, feq_l, pick, await, suffices, frame, group}
use types.Run.{enter, addr, stop, fld, no_more, and_then, returns}
use types.Part.{agg}
use types.Mut.{open_ref}
use types.Follow.{after₂, takes_two, followed₂}
use types.ByLocal.{alloc_all, pass_all, free_all, look_at, get, through, sets, lands_as}
use denote.Param.{layout}
use denote.RattleType.{RattleType, Valss}
use denote.Memory.{mem}
use denote.Ref.{MutRef, mut_vals, mut_Tells}
use denote.Signature.{plain, mut_ref_to}
use denote.Exit.{no}
use denote.Follow.{both_by, follows, follows_both, followed}
use denote.Steps.{nothing, heard, only}
use denote.Struct.Tuple.{Tuple, tuple_type}
use denote.Struct.Declared.{Declared, shape}
use denote.Struct.Struct.{within}
use denote.Struct.Members.{Member}
use denote.Struct.Parts.{PartsBack}
use denote.Triple.Call.{calls_at}
use denote.Triple.Clauses.{lasts, Lasts}
use denote.Triple.Spec.{triple_of}
use denote.Triple.Table.{framed}
use denote.Triple.Walked.{Stays, says, stay_dropped, Goes-spent_ref, ends_at}
use borrow.Struct.LendTwo.{ins, kept_but, apart_but, whole_but}
use Rattle.af_link.specs.contracts.reports.ReportWriter.{the_row as T}
use Rattle.af_link.specs.contracts.ends.PipeOut.{the_row as U}
use Rattle.af_link.proofs.reports.ReportWriter.TheLaws.{the_row_laws as T-laws}
use Rattle.af_link.proofs.ends.PipeOut.TheLaws.{the_row_laws as U-laws}
use Rattle.af_fast.specs.Lends.{lends_pair}
use Rattle.af_fast.specs.Mixer.{MixerState}
use Rattle.af_fast.specs.contracts.mixer.FastMixer.ends as f
use Rattle.af_fast.specs.contracts.mixer.FastMixer.pair as g
use Rattle.af_fast.specs.contracts.mixer.FastMixer.{the_row as R}
use Rattle.af_fast.proofs.mixer.FastMixer.ends.Statement.{statement}
use Rattle.af_fast.proofs.mixer.FastMixer.ends.Code as code
use Rattle.af_fast.proofs.mixer.FastMixer.pair.Met.{met}

abbrev ms : List Member
ms = record { row = T; ty = layout T } ∷ record { row = U; ty = layout U } ∷ []

abbrev second : ℕ
second = up (align (layout U)) (size (layout T))

abbrev P : RattleType
P = Tuple (T ∷ U ∷ [])

abbrev pair_of : Declared
pair_of = tuple_type (T ∷ U ∷ [])

abbrev F : T.Denot → U.Denot → P.Denot
F x y = (x, y)

abbrev G : MixerState → P.Denot → MixerState
G m e = record m { writer = e.0; pipe = e.1 }

module _ {M : Type 1} {𝓤 : Ura M} (𝓛 : Logic 𝓤) where
  open 𝓛 use {A}

  module _ (b o : ℕ) where
    abbrev Back : SProp 𝓤
    Back = PartsBack 𝓛 full_share pair_of.name ms b o

    back : (x : T.Denot) (y : U.Denot) → ent 𝓤 (sep 𝓤 (sem 𝓛 ((mem T).own_at x b (o + 0))) (sep 𝓤 (sem 𝓛 ((mem U).own_at y b (o + second))) Back)) (sem 𝓛 ((mem P).own_at (F x y) b o))
    back x y = qed 𝓛 (‵ ((mem T).own_at x b (o + 0)) ∷ ‵ ((mem U).own_at y b (o + second)) ∷ raw Back ∷ []) ∵ nothing ! $ move ! (1 ∷ 2 ∷ 0 ∷ []) $ fjoin3 ! $ join ! $
        by ! (whole_but pair_of.name ms P.Denot pair_of.to pair_of.to_one 𝓛 (F x y) b o)

  both_then : (γ γ' γ₁ γ₂ : GName) (m : MixerState) → ent 𝓤 (sep 𝓤 (sem 𝓛 (follows R P γ γ' (G m))) (sem 𝓛 (after₂ (mem P) (mem T) (mem U) γ' γ₁ γ₂ F))) (sem 𝓛 (follows_both R T U γ γ₁ γ₂ (λ x y. G m (F x y))))
  unfolding both_by
  both_then γ γ' γ₁ γ₂ m = qed 𝓛 (‵ (follows R P γ γ' (G m)) ∷ ‵ (after₂ (mem P) (mem T) (mem U) γ' γ₁ γ₂ F) ∷ []) ∵
      each ! (λ (w : T.Denot × U.Denot). wand 𝓤 (sep 𝓤 (A.res γ₁ (T.coded.code w.0)) (A.res γ₂ (U.coded.code w.1))) (A.res γ (R.coded.code (G m (F w.0 w.1))))) (λ w.
      assume ! (‵ (fres γ₁ (T.coded.code w.0)) ⊛ ‵ (fres γ₂ (U.coded.code w.1))) $ move ! (0 ∷ 2 ∷ []) $
      use2 𝓛 (‵ (fres γ' (P.coded.code (F w.0 w.1)))) (followed₂ 𝓛 (mem P) (mem T) (mem U) F γ' γ₁ γ₂ w.0 w.1) $ move ! (1 ∷ 0 ∷ []) $ by ! (followed 𝓛 R P (G m) γ γ' (F w.0 w.1)))

abbrev stayed : Stays f.ended.signature.params f.ended.kept
stayed = (stay_dropped (mut_ref_to (0 ∷ []) tt (plain (λ _. R))) no, tt)

pub ends_spec : {M : Type 1} → statement M
ends_spec 𝓤 𝓛 𝓜 𝓡 wired =
    let c = f.clauses 𝓛 𝓜.mem 𝓡.returns in
    proved 𝓛 f.ended stayed c 𝓜 𝓡 (Goes-spent_ref 𝓛 1 (0 ∷ []) tt (plain (λ _. R)), tt)
    f.Key.name code.function (code.unfolded 𝓤 𝓛.H 𝓜 𝓡 wired)
    (λ κs. (mut_vals, tt)) (λ κs. (mut_Tells (named 0) κs.0 R, tt)) (λ κs qs bounds a _ are.
    let κ = κs.0 in let q = qs.0 in let m = a.0.now in let γ = a.0.ghost_name in let vs = mut_vals a.0 in
    qed 𝓛 (((‵ (flft κ q) ⊛ ‵ ftrue) ⊛ ‵ ((MutRef (named 0) κ R).own_val a.0 vs) ⊛ ‵ ftrue) ∷ ‵ ftrue ∷ []) ∵
    split ! $ split ! $ move ! (2 ∷ []) $ split ! $ keep ! (0 ∷ 2 ∷ []) $
    enter ! _ _ _ _ _ $ alloc_all ! (λ l. pass_all ! refl ((tt, tt), tt) $
    sets ! (addr ! (through ! refl (stop !))) refl (tt, tt) $
    let H = triple_of 𝓛 g.signature (g.spec 𝓛 𝓜.mem 𝓡.returns) in
    let z : H.Ghost = (((κ, tt), (q, tt), tt, (a.0, tt), (vs, tt)), tt) in
    nothing ! $ move ! (1 ∷ 0 ∷ []) $ join ! $ nothing ! $ move ! (2 ∷ 0 ∷ []) $ join ! $ join ! $
    nothing ! $ move ! (1 ∷ 0 ∷ []) $ use2 𝓛 (raw (H.pre z)) (id⊢ 𝓤 _) $
    calls_at ! (framed 𝓤 𝓛.H 𝓜 (tables 𝓤 𝓛.H 𝓜 𝓡 𝓡.env)) H (met 𝓤 𝓛 𝓜 𝓡 (code.calls-af_fast::mixer::FastMixer::pair 𝓡.env wired)) z
    (and_then ! (get ! refl) (no_more !)) (λ v.
    use1 𝓛 (later (some (λ (r : MutBor P.Denot). ((‵ (flft κ q) ⊛ ‵ ftrue) ⊛ ‵ ((MutRef (named 0) κ P).own_val r (v ∷ []))) ⊛
    some (λ (ws : Lasts g.ended z.0.0 z.0.3). ‵ (lasts g.ended z.0.0 z.0.3 ws) ⊛ ‵ (lends_pair a.0 r) ⊛ raw (fact 𝓤 ((r.now.0 ≡ m.writer) × (r.now.1 ≡ m.pipe))))))) (id⊢ 𝓤 _) $
    await ! tt $ pick ! (λ r.
    let b = r.ref_ptr.0 in let o = r.ref_ptr.1 in let e = r.now in
    split ! $ split ! $ split ! $ move ! (2 ∷ []) $ fsplit3 ! $ feq_l ! (λ is_ref. lands_as ! (ap only is_ref) refl (tt, tt) $
    sets ! (addr ! (through ! refl (fld ! refl (stop !)))) refl (tt, tt) $
    sets ! (addr ! (through ! refl (fld ! refl (stop !)))) refl (tt, tt) $
    sets ! (agg ! (and_then ! (get ! refl) (and_then ! (get ! refl) (no_more !)))) refl (tt, (tt, (tt, tt))) $
    -- [obs; the pair's borrow; the token; true; what the call says; the locals]
    move ! (4 ∷ []) $ pick ! (λ ws. split3 ! $ drop ! $ move ! (1 ∷ []) $ heard ! _ (λ are_now.
    move ! (1 ∷ 2 ∷ 3 ∷ []) $ open_ref ! tt (mem P) {x = e} {b = b} {o = o} $
    use1 𝓛 (kept_but pair_of.name ms P.Denot pair_of.to pair_of.to_one (ins ms) _ 𝓤 𝓛 e b o)
    (apart_but pair_of.name ms P.Denot pair_of.to pair_of.to_one 𝓛 (T-laws.lawful 𝓛, (U-laws.lawful 𝓛, tt)) e b o) $ split ! $ fsplit3 ! $
    -- [the first part; the second; true; the way back; the open borrow; obs; auth; what the call says of the mixer]
    move ! (4 ∷ 5 ∷ 6 ∷ 0 ∷ 1 ∷ 3 ∷ []) $ group ! 6 $
    use1 𝓛 (later (some (λ (γs : GName × GName). (‵ (fobs γs.0 (T.coded.code e.0)) ⊛ ‵ (fbor κ (Body (mem T) b (o + 0) γs.0))) ⊛ (‵ (fobs γs.1 (U.coded.code e.1)) ⊛ ‵ (fbor κ (Body (mem U) b (o + second) γs.1)))
    ⊛ ‵ (flft κ q) ⊛ ‵ (after₂ (mem P) (mem T) (mem U) r.ghost_name γs.0 γs.1 F))))
    (takes_two 𝓛 (mem P) (mem T) (mem U) F κ q b o b (o + 0) b (o + second) r.ghost_name (Back 𝓛 b o) (back 𝓛 b o) (P.coded.code e) (P.coded.code e) e.0 e.1) $ await ! tt $ pick ! (λ γs.
    let one : MutBor T.Denot = record { ref_ptr = (b, o + 0); ghost_name = γs.0; now = e.0 } in
    let two : MutBor U.Denot = record { ref_ptr = (b, o + second); ghost_name = γs.1; now = e.1 } in
    let w : Val = vstruct (vcons (vptr b (o + 0)) (vcons (vptr b (o + second)) vnil)) in
    let Parts = MutRef (named 0) κ T ∷ MutRef (named 0) κ U ∷ [] in
    split3 ! $ split ! $ feq_i ! (List Val) (vptr b (o + 0) ∷ []) (vptr b (o + 0) ∷ []) refl $ fjoin3 ! $ move ! (1 ∷ []) $
    split ! $ feq_i ! (List Val) (vptr b (o + second) ∷ []) (vptr b (o + second) ∷ []) refl $ fjoin3 ! $ move ! (2 ∷ []) $ split ! $
    -- [the token; after; the second reference; the first; true; what the call says of the mixer]
    move ! (5 ∷ 1 ∷ []) $ use2 𝓛 (‵ (follows_both R T U γ γs.0 γs.1 (λ x y. G m (F x y)))) (both_then 𝓛 γ r.ghost_name γs.0 γs.1 m) $
    nothing ! $ move ! (3 ∷ 0 ∷ []) $ fjoin ! $ move ! (3 ∷ 0 ∷ []) $ fjoin ! $ feq_i ! (List Val) (w ∷ []) (w ∷ []) refl $ fjoin ! $
    fpack ! (Valss Parts) (within (shape (tuple_type Parts)) (one, (two, tt)) (w ∷ [])) (vptr b (o + 0) ∷ [], (vptr b (o + second) ∷ [], tt)) $
    returns ! (look_at ! 0 refl) $ free_all ! refl $ keep ! (0 ∷ 2 ∷ 1 ∷ []) $
    suffices ! _ (ends_at 𝓛 f.ended stayed c ((κs, qs, bounds, a, (vs, tt)), tt) w (one, two) (tt, tt) (tt, tt)) $
    nothing ! $ nothing ! $ fjoin ! $ join ! $ nothing ! $ move ! (2 ∷ 0 ∷ []) $ join ! $ join ! $ frame ! $ says ! are_now $ done !))))))))
