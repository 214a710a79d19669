pub mod RealLoads
