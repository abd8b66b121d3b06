pub mod WhiteningLaws
