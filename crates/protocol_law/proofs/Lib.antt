pub mod Shapes
pub mod Alike
pub mod Listings
pub mod RepliedAlike
